-- Pages, and the frames that are their memory.
use Rattle.std.specs.Prelude.{◌≡◌, ℕ, ◌+◌, ◌-◌, ◌*◌, ◌/◌, ◌%◌, ◌==◌, ◌&&◌, not, Bool, true, false, List, [], ◌∷◌}
use Rattle.std.specs.Prelude.{◌++◌, length, map}
use Rattle.std.specs.Prelude.{take, drop, replicate, Option, Some, None, is_none, option_and_then, Result, Ok, Err}
use Rattle.std.specs.Prelude.{nat_le, nat_lt, slice_get, slice_set, position, if◌then◌else◌}
use Rattle.model.specs.declared.records.Page.{Page}
use Rattle.model.specs.declared.records.PageState.{PageState}
use Rattle.model.specs.declared.records.PageState.TheVariants.{Unused, Open, Closed, From, Gone}
use Rattle.model.specs.declared.records.Buffer.{Buffer}
use Rattle.model.specs.declared.records.Room.{Room}
use Rattle.model.specs.declared.records.Room.TheVariants.{NoFrames, NoPages, NoMemory}

-- A store: the words of a page, the number of pages, their records, and the frames with their owners. Page n has its
-- record at n - 1 of pages; a page without a record is unused. Each frame has at most one owner, the number of a
-- page, and then the words of a page; a free frame has none.
pub record StoreState : Type 0 where
  pub words : ℕ
  pub count : ℕ
  pub pages : List Page
  pub frames : List (List ℕ)
  pub owners : List (Option ℕ)

-- pages

-- the record of page n
unfoldable pub page_at : StoreState → ℕ → Option Page
page_at s n = if n == 0 then None else slice_get s.pages (n - 1)

-- the state of a page that may have no record
abbrev pub state_in : Option Page → PageState
state_in None = Unused
state_in (Some p) = p.state

-- the state of page n
unfoldable pub state_at : StoreState → ℕ → PageState
state_at s n = state_in (page_at s n)

-- the frame of a page that may have no record
abbrev pub frame_in : Option Page → Option ℕ
frame_in None = None
frame_in (Some p) = p.frame

-- buffers are taken in pages of this state
abbrev pub is_open : PageState → Bool
is_open Open = true
is_open _ = false

-- pages of this state may be opened
abbrev pub is_unused : PageState → Bool
is_unused Unused = true
is_unused _ = false

-- pages of this state have memory
abbrev pub has_memory : PageState → Bool
has_memory Unused = false
has_memory Gone = false
has_memory _ = true

-- pages of this state are protected: From or Gone
abbrev pub is_protected : PageState → Bool
is_protected From = true
is_protected Gone = true
is_protected _ = false

-- pages of this state are From
abbrev pub is_from : PageState → Bool
is_from From = true
is_from _ = false

-- words

-- offset o of a frame that may be missing
abbrev pub at_offset : Option ℕ → ℕ → Option (ℕ × ℕ)
at_offset None o = None
at_offset (Some f) o = Some (f, o)

-- the frame and the offset of an address
unfoldable pub spot_of : StoreState → ℕ → Option (ℕ × ℕ)
spot_of s address = at_offset (frame_in (page_at s (address / s.words))) (address % s.words)

-- the word at a frame and an offset that may be missing
abbrev pub word_in : List (List ℕ) → Option (ℕ × ℕ) → Option ℕ
word_in frames None = None
word_in frames (Some x) = option_and_then (λ ws. slice_get ws x.1) (slice_get frames x.0)

-- the word at an address, if its page has memory
unfoldable pub word_at : StoreState → ℕ → Option ℕ
word_at s address = word_in s.frames (spot_of s address)

-- frames with other words in frame f, which may be missing
abbrev pub changed_frame : List (List ℕ) → ℕ → Option (List ℕ) → (List ℕ → List ℕ) → List (List ℕ)
changed_frame frames f None change = frames
changed_frame frames f (Some ws) change = slice_set frames f (change ws)

-- the same, if f itself may be missing
abbrev pub changed_in : List (List ℕ) → Option ℕ → (List ℕ → List ℕ) → List (List ℕ)
changed_in frames None change = frames
changed_in frames (Some f) change = changed_frame frames f (slice_get frames f) change

-- the store with other words in the frame of page n
unfoldable pub with_words : StoreState → ℕ → (List ℕ → List ℕ) → StoreState
with_words s n change = record s { frames = changed_in s.frames (frame_in (page_at s n)) change }

-- the store with another word at an address
unfoldable pub with_word : StoreState → ℕ → ℕ → StoreState
with_word s address v = with_words s (address / s.words) (λ ws. slice_set ws (address % s.words) v)

-- the words of page n, if it has memory
unfoldable pub words_at : StoreState → ℕ → Option (List ℕ)
words_at s n = option_and_then (slice_get s.frames) (frame_in (page_at s n))

-- words with others written over them from an offset on; what would go past their end is left out
abbrev pub overlay : List ℕ → ℕ → List ℕ → List ℕ
overlay ws o xs = take (length ws) (take o ws ++ (xs ++ drop (length xs) (drop o ws)))

-- buffers

-- n more words can be taken in the page
abbrev pub has_room : ℕ → ℕ → Page → Bool
has_room words n p = is_open p.state && nat_le n (words - p.top)

-- the index of the lowest open page with space
unfoldable pub page_with_room : ℕ → ℕ → List Page → Option ℕ
page_with_room words n pages = position (has_room words n) pages

-- the lowest free frame
unfoldable pub free_frame : List (Option ℕ) → Option ℕ
free_frame owners = position is_none owners

-- the index that was found, else that of the first page past the list, if it exists
abbrev pub unused_in : ℕ → List Page → Option ℕ → Option ℕ
unused_in count pages (Some i) = Some i
unused_in count pages None = if nat_lt (length pages) count then Some (length pages) else None

-- the index of the lowest unused page
unfoldable pub unused_page : ℕ → List Page → Option ℕ
unused_page count pages = unused_in count pages (position (λ p. is_unused p.state) pages)

-- frames after one, if there is one, lost its words
abbrev pub with_empty : List (List ℕ) → Option ℕ → List (List ℕ)
with_empty frames None = frames
with_empty frames (Some f) = slice_set frames f []

-- a page that was just opened on frame f
abbrev pub fresh_page : ℕ → Page
fresh_page f = record { state = Open; frame = Some f; top = 0 }

-- the page of an index opened on a frame of zeros
unfoldable pub open_fresh : StoreState → ℕ → ℕ → StoreState
open_fresh s i f = record s {
  pages = slice_set s.pages i (fresh_page f);
  frames = slice_set s.frames f (replicate s.words 0);
  owners = slice_set s.owners f (Some (i + 1));
}

-- how many words were given out of a page; 0 if it has no record
abbrev pub top_in : Option Page → ℕ
top_in None = 0
top_in (Some p) = p.top

-- records with n more words given out of the page of index i, which may be missing
abbrev pub raise_top : List Page → ℕ → Option Page → ℕ → List Page
raise_top pages i None n = pages
raise_top pages i (Some p) n = slice_set pages i (record p { top = p.top + n })

-- n words from top on of the page of index i
abbrev pub buffer_of : ℕ → ℕ → ℕ → Buffer
buffer_of i top n = record { page = i + 1; next = top; end = top + n }

-- n words of the page of an index are given out
unfoldable pub give_words : StoreState → ℕ → ℕ → StoreState × Buffer
give_words s i n =
    (record s { pages = raise_top s.pages i (slice_get s.pages i) n }, buffer_of i (top_in (slice_get s.pages i)) n)

-- n words of a fresh page, of this index and on this frame, if there are both
abbrev pub take_fresh : StoreState → ℕ → Option ℕ → Option ℕ → Result (StoreState × Buffer) Room
take_fresh s n None i = Err NoFrames
take_fresh s n (Some f) None = Err NoPages
take_fresh s n (Some f) (Some i) = Ok (give_words (open_fresh s i f) i n)

-- n words of the open page of this index, else of a fresh page
abbrev pub take_at : StoreState → ℕ → Option ℕ → Result (StoreState × Buffer) Room
take_at s n (Some i) = Ok (give_words s i n)
take_at s n None = take_fresh s n (free_frame s.owners) (unused_page s.count s.pages)

-- a buffer of n words: in the lowest open page with space, else in the lowest unused page, opened on the lowest free
-- frame
unfoldable pub take_buffer : StoreState → ℕ → Result (StoreState × Buffer) Room
take_buffer s n = take_at s n (page_with_room s.words n s.pages)

-- a call that took a buffer, or failed and changed nothing
abbrev pub Takes : StoreState → Result Buffer Room → StoreState → Result (StoreState × Buffer) Room → Type 0
Takes old (Ok b) new outcome = outcome ≡ Ok (new, b)
Takes old (Err e) new outcome = (outcome ≡ Err e) × (new ≡ old)

-- the same, or it failed with NoMemory, and nothing changed
abbrev pub TakesOrLacks : StoreState → Result Buffer Room → StoreState → Result (StoreState × Buffer) Room → Type 0
TakesOrLacks old (Err NoMemory) new outcome = new ≡ old
TakesOrLacks old result new outcome = Takes old result new outcome

-- pages after a mark

-- a page after a mark: an open one without a lent buffer closes, and a protected one is unused again
abbrev pub page_after_mark : Bool → Page → Page
page_after_mark lent p =
    if is_protected p.state then record p { state = Unused; frame = None } else
    (if is_open p.state && not lent then record p { state = Closed } else p)

-- pages from number n on after a mark; lent is true of the numbers of pages with a lent buffer
abbrev pub pages_after_mark : (ℕ → Bool) → ℕ → List Page → List Page
pages_after_mark lent n [] = []
pages_after_mark lent n (p ∷ ps) = page_after_mark (lent n) p ∷ pages_after_mark lent (n + 1) ps

-- the owner of a frame after a mark: protected pages lose theirs
abbrev pub owner_after_mark : StoreState → Option ℕ → Option ℕ
owner_after_mark s None = None
owner_after_mark s (Some n) = if is_protected (state_at s n) then None else Some n

-- the words of a frame that has this owner
abbrev pub words_owned : Option ℕ → List ℕ → List ℕ
words_owned None ws = []
words_owned (Some n) ws = ws

-- the words of frames that have these owners
abbrev pub frames_owned : List (Option ℕ) → List (List ℕ) → List (List ℕ)
frames_owned [] frames = frames
frames_owned (o ∷ os) [] = []
frames_owned (o ∷ os) (ws ∷ frames) = words_owned o ws ∷ frames_owned os frames

-- the store after a mark
unfoldable pub store_after_mark : (ℕ → Bool) → StoreState → StoreState
store_after_mark lent s = record s {
  pages = pages_after_mark lent 1 s.pages;
  frames = frames_owned (map (owner_after_mark s) s.owners) s.frames;
  owners = map (owner_after_mark s) s.owners;
}

-- the first store

-- a page that was never used
abbrev pub blank_page : Page
blank_page = record { state = Unused; frame = None; top = 0 }

-- how many pages have records: no more are ever in use at once
abbrev pub record_count : ℕ → ℕ → ℕ
record_count frames pages = if nat_le pages (2 * frames) then pages else 2 * frames

-- all pages unused, all frames free and without words
unfoldable pub first_store : ℕ → ℕ → ℕ → StoreState
first_store words frames pages = record {
  words = words;
  count = pages;
  pages = replicate (record_count frames pages) blank_page;
  frames = replicate frames [];
  owners = replicate frames None;
}
