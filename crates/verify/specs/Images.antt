-- The image of a heap, its memory and its roots as plain data, and the objects to which values lead.
use Rattle.std.specs.Prelude.{ℕ, ◌+◌, ◌-◌, ◌/◌, ◌%◌, ◌==◌, Bool, false, List, Option, Some, None, is_some}
use Rattle.std.specs.Prelude.{option_and_then, nat_le, nat_lt, slice_get, find, get_or, unwrap_or}
use Rattle.std.specs.Prelude.{if◌then◌else◌}
use Rattle.refword.specs.Words.{read_word}
use Rattle.refword.specs.declared.addr.TheConstants.Addr as addresses
use Rattle.layout.specs.declared.shape.Layout.{Layout}
use Rattle.layout.specs.Objects.{size_of, birth_of, layout_of}
use Rattle.model.specs.declared.records.Forwarding.{Forwarding}
use Rattle.model.specs.declared.records.PageState.{PageState}
use Rattle.model.specs.Stores.{is_protected}
use Rattle.verify.specs.declared.objects.Object.{Object}

-- a value is passed on; none stays none
infixl 10 ◌>>=◌
abbrev pub ◌>>=◌ : {A B : Type 0} → Option A → (A → Option B) → Option B
o >>= f = option_and_then f o

-- a page: its state, its frame, its start bitmap, and its forwarding table
pub record PageData : Type 0 where
  pub state : PageState
  pub frame : Option ℕ
  pub starts : List Bool
  pub side : List Forwarding

-- an image: page n is the element n - 1 of pages, and a root is a number that may be no reference
pub record ImageData : Type 0 where
  pub words : ℕ
  pub frame_count : ℕ
  pub free : List ℕ
  pub pages : List PageData
  pub frames : List (List ℕ)
  pub registers : List (List ℕ)
  pub loads : List (Option ℕ)
  pub globals : List ℕ
  pub layouts : List Layout

-- the page of an address
unfoldable pub page_at : ImageData → ℕ → Option PageData
page_at i a = if a / i.words == 0 then None else slice_get i.pages (a / i.words - 1)

-- the address to which an entry's object was copied, if it was
abbrev pub copy_of : Forwarding → Option ℕ
copy_of f = if f.copied then Some f.to else None

-- the address to which the object of an offset was copied, by a forwarding table: its first entry of the offset
-- counts
abbrev pub copy_in : List Forwarding → ℕ → Option ℕ
copy_in side offset = option_and_then copy_of (find (λ f. f.offset == offset) side)

-- the same, for a page that may not exist
abbrev pub copy_on : Option PageData → ℕ → Option ℕ
copy_on None offset = None
copy_on (Some p) offset = copy_in p.side offset

-- a forwarding table has the address as copied
unfoldable pub is_copied : ImageData → ℕ → Bool
is_copied i a = is_some (copy_on (page_at i a) (a % i.words))

-- a page that may not exist, if it is protected
abbrev pub if_protected : Option PageData → Option PageData
if_protected None = None
if_protected (Some p) = if is_protected p.state then Some p else None

-- an address after forwarding: the copy's, if its page is protected and its object copied, else itself
unfoldable pub resolve : ImageData → ℕ → ℕ
resolve i a = unwrap_or (copy_on (if_protected (page_at i a)) (a % i.words)) a

-- the word at an address, if its page has a frame
unfoldable pub word_at : ImageData → ℕ → Option ℕ
word_at i a = do
  page ← page_at i a
  frame ← page.frame
  words ← slice_get i.frames frame
  slice_get words (a % i.words)

-- a page, if it exists, has a start bit at an offset
abbrev pub starts_on : Option PageData → ℕ → Bool
starts_on None offset = false
starts_on (Some p) offset = get_or p.starts offset false

-- the object at an address, if its layout is known and its page has space for its size
unfoldable pub object_in : ImageData → ℕ → Option Object
object_in i a = do
  bits ← word_at i a
  layout ← slice_get i.layouts (layout_of bits)
  if nat_le (a % i.words + size_of layout) i.words
      then Some (record { birth = birth_of bits; refs = layout.refs })
      else None

-- the object that starts at an address, if a reference can have the address: there is a start bit, and an object
unfoldable pub object_at : ImageData → ℕ → Option Object
object_at i a =
    if nat_lt a addresses.LIMIT then (if starts_on (page_at i a) (a % i.words) then object_in i a else None) else None

-- the address, if an object starts there
abbrev pub start_found : ℕ → Option Object → Option (Option ℕ)
start_found a None = None
start_found a (Some o) = Some (Some a)

-- the object to which a reference leads
abbrev pub word_leads : ImageData → Option (Option (ℕ × Bool)) → Option (Option ℕ)
word_leads i None = None
word_leads i (Some None) = Some None
word_leads i (Some (Some w)) = start_found (resolve i w.0) (object_at i (resolve i w.0))

-- the object to which a value leads: none, if it is null; an object's address, if it is a reference that resolves to
-- one; else there is no result, as the value isn't good
unfoldable pub leads : ImageData → ℕ → Option (Option ℕ)
leads i value = word_leads i (read_word value)

-- the value of reference k of the object at an address, if it exists
unfoldable pub field : ImageData → ℕ → ℕ → Option ℕ
field i a k = do
  object ← object_at i a
  if nat_lt k object.refs then word_at i (a + 1 + k) else None
