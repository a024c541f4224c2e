-- The invariant of a store: each frame is the memory of one page, or free.
use Rattle.std.specs.Prelude.{◌≡◌, ℕ, ◌+◌, ◌≤◌, ◌<◌, true, false, List, length, count_by, is_some, is_none, Some}
use Rattle.std.specs.Prelude.{None, Option, map, ◌-◌, ◌==◌, slice_set, if◌then◌else◌}
use Rattle.std.specs.Prelude.{slice_get}
use Rattle.model.specs.declared.limits.TheConstants.{MOST_WORDS, MOST_FRAMES, MOST_PAGES}
use Rattle.model.specs.declared.records.Page.{Page}
use Rattle.model.specs.declared.records.Buffer.{Buffer}
use Rattle.model.specs.Stores.{StoreState, has_memory, is_protected, is_open, is_unused, page_at, state_in, record_count}
pub use Rattle.sequences.specs.Elements.{Each}

-- a page has a frame exactly if its state says so, and gave out no more words than it has
pub record IsPage (words : ℕ) (p : Page) : Type 0 where
  pub memory : is_some p.frame ≡ has_memory p.state
  pub top : p.top ≤ words

-- the page of an index has a frame exactly if it is the frame's owner
pub record OwnsAlike (s : StoreState) : Type 0 where
  pub owned : (i f : ℕ) (p : Page) → slice_get s.pages i ≡ Some p → p.frame ≡ Some f
      → slice_get s.owners f ≡ Some (Some (i + 1))
  pub owner : (f n : ℕ) → slice_get s.owners f ≡ Some (Some n)
      → (i : ℕ) × (p : Page) × (n ≡ i + 1) × (slice_get s.pages i ≡ Some p) × (p.frame ≡ Some f)

-- pages with memory and free frames add up to the frames, and no more pages are protected than there are frames
pub record IsBalanced (s : StoreState) : Type 0 where
  pub frames : count_by (λ p. has_memory p.state) s.pages + count_by is_none s.owners ≡ length s.frames
  pub leaving : count_by (λ p. is_protected p.state) s.pages ≤ length s.frames

-- how many words a frame of this owner has: those of a page, and none if it is free
abbrev pub owned_size : ℕ → Option ℕ → ℕ
owned_size words None = 0
owned_size words (Some n) = words

-- sizes are within their limits, and lists are as long as what they describe
pub record IsStoreSized (s : StoreState) : Type 0 where
  pub words_low : 0 < s.words
  pub words : s.words ≤ MOST_WORDS
  pub frame_count : length s.frames ≤ MOST_FRAMES
  pub count : s.count ≤ MOST_PAGES
  pub owners : length s.owners ≡ length s.frames
  pub pages : length s.pages ≡ record_count (length s.frames) s.count
  pub frames : (f : ℕ) (o : Option ℕ) (ws : List ℕ) → slice_get s.owners f ≡ Some o → slice_get s.frames f ≡ Some ws
      → length ws ≡ owned_size s.words o

-- the invariant of a store
pub record IsStore (s : StoreState) : Type 0 where
  pub sized : IsStoreSized s
  pub pages : Each s.pages (IsPage s.words)
  pub owning : OwnsAlike s
  pub balanced : IsBalanced s

-- a buffer lies in an open page of the store
pub record LiesIn (s : StoreState) (b : Buffer) : Type 0 where
  pub page : is_open (state_in (page_at s b.page)) ≡ true
  pub order : b.next ≤ b.end
  pub end : b.end ≤ s.words

-- no page is From or Gone
abbrev pub NoneProtected : StoreState → Type 0
NoneProtected s = Each s.pages (λ p. is_protected p.state ≡ false)

-- two stores have the same words of a page, numbers of pages, and numbers of frames
pub record AreSized (s t : StoreState) : Type 0 where
  pub words : t.words ≡ s.words
  pub count : t.count ≡ s.count
  pub frames : length t.frames ≡ length s.frames

-- how many bits each bitmap of a page has: one for each of its words, and none if it is unused
abbrev pub row_size : ℕ → Page → ℕ
row_size words p = if is_unused p.state then 0 else words

-- how many bits the bitmaps of a store's pages have
abbrev pub row_sizes : StoreState → List ℕ
row_sizes s = map (row_size s.words) s.pages

-- the sizes of bitmaps after a page that is opened for a buffer got one of a number of bits
abbrev pub opened_sizes : ℕ → Buffer → List ℕ → List ℕ
opened_sizes words b sizes = if b.next == 0 then slice_set sizes (b.page - 1) words else sizes

-- a buffer that was taken lies in the new store, and so do those that lay in the old one; sizes stay, except that of
-- the bitmaps of a page that opens; and no page becomes protected
pub record TakesWell (s t : StoreState) (b : Buffer) : Type 0 where
  pub sized : AreSized s t
  pub rows : row_sizes t ≡ opened_sizes s.words b (row_sizes s)
  pub lies : LiesIn t b
  pub stays : (c : Buffer) → LiesIn s c → LiesIn t c
  pub unprotected : NoneProtected s → NoneProtected t
