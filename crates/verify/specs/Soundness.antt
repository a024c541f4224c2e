-- The conditions under which the image of a heap is sound.
use Rattle.std.specs.Prelude.{◌≡◌, ◌≢◌, ◌⊎◌, ◌≤◌, ℕ, ◌+◌, ◌==◌, Bool, true, false, List, length, Option, Some}
use Rattle.std.specs.Prelude.{None, is_some, option_map, slice_get, count_by, nat_lt, ◌||◌}
use Rattle.std.specs.Option.{option_flatten}
use Rattle.model.specs.Configs.{is_page_size}
use Rattle.model.specs.Stores.{has_memory}
use Rattle.model.specs.Owning.{Each}
use Rattle.verify.specs.Images.{ImageData, PageData, ◌>>=◌, is_copied, object_at, leads, field}
use Rattle.verify.specs.declared.verdict.Root.{Root}
use Rattle.verify.specs.declared.verdict.Root.TheVariants as roots

-- a value is good: null, or a reference that resolves to an object's start in a page with a frame
abbrev pub IsGood : ImageData → ℕ → Type 0
IsGood i value = (found : Option ℕ) × (leads i value ≡ Some found)

-- frames

-- the frame of a page is this one
abbrev pub is_frame : ℕ → Option ℕ → Bool
is_frame f None = false
is_frame f (Some g) = g == f

-- how many pages have frame f
abbrev pub owners_in : List PageData → ℕ → ℕ
owners_in pages f = count_by (λ p. is_frame f p.frame) pages

-- how often a frame is in a list
abbrev pub times_in : List ℕ → ℕ → ℕ
times_in frames f = count_by (λ g. g == f) frames

-- how often a frame is owned by a page, or free
abbrev pub uses_of : ImageData → ℕ → ℕ
uses_of i f = owners_in i.pages f + times_in i.free f

-- 1 for true, and 0 for false
abbrev pub as_number : Bool → ℕ
as_number true = 1
as_number false = 0

-- a list, if there is one, has this number of words
abbrev pub is_sized : ℕ → Option (List ℕ) → Bool
is_sized words None = true
is_sized words (Some ws) = length ws == words

-- frame f, if it exists, has this number of words
abbrev pub has_words : List (List ℕ) → ℕ → ℕ → Bool
has_words frames words f = is_sized words (slice_get frames f)

-- frame f is a possible free one: it has no words, or those of a page
abbrev pub may_be_free : List (List ℕ) → ℕ → ℕ → Bool
may_be_free frames words f = has_words frames 0 f || has_words frames words f

-- the frame of a page, if it has one, has this number of words
abbrev pub is_filled : List (List ℕ) → ℕ → Option ℕ → Bool
is_filled frames words None = true
is_filled frames words (Some f) = has_words frames words f

-- a page has a frame exactly if its state says so
abbrev pub HasItsFrame : PageData → Type 0
HasItsFrame p = is_some p.frame ≡ has_memory p.state

-- each frame of the configured number is owned by one page, or is once in the list of free ones; no other frame is
abbrev pub IsOnce : ImageData → Type 0
IsOnce i = (f : ℕ) → uses_of i f ≡ as_number (nat_lt f i.frame_count)

-- the page size is within the limits, the frame of each page has the words of a page, a free one has them or none,
-- the configured number of frames exists, and each of these has one owner or is free, once
pub record HasFrames (i : ImageData) : Type 0 where
  pub size : is_page_size i.words ≡ true
  pub words : Each i.pages (λ p. is_filled i.frames i.words p.frame ≡ true)
  pub free : Each i.free (λ f. may_be_free i.frames i.words f ≡ true)
  pub there : i.frame_count ≤ length i.frames
  pub states : Each i.pages HasItsFrame
  pub once : IsOnce i

-- roots

-- the value of a root, if there is such a root: a register by thread and number, the current reference of a thread's
-- load, or a global by number
abbrev pub root_value : ImageData → Root → Option ℕ
root_value i (roots.Register t r) = slice_get i.registers t >>= (λ registers. slice_get registers r)
root_value i (roots.Pending t) = option_flatten (slice_get i.loads t)
root_value i (roots.Global g) = slice_get i.globals g

-- paths

-- an address at the end of a path: a root leads to it, or a field of the object at such an address
pub data IsReached (i : ImageData) : ℕ → Type 0 where
  FromRoot : (a value : ℕ) (r : Root) → root_value i r ≡ Some value → leads i value ≡ Some (Some a) → IsReached i a
  FromField : (c a k value : ℕ) → IsReached i a → field i a k ≡ Some value → leads i value ≡ Some (Some c)
      → IsReached i c

-- births

-- an object of this birth starts at an address
abbrev pub IsBirthAt : ImageData → ℕ → ℕ → Type 0
IsBirthAt i a b = option_map (λ o. o.birth) (object_at i a) ≡ Some b

-- two different addresses have objects of this birth: one that is reached, and one that is reached too, or wasn't
-- copied
pub record AreTwins (i : ImageData) (b a c : ℕ) : Type 0 where
  pub apart : a ≢ c
  pub reached : IsReached i a
  pub other : IsReached i c ⊎ (is_copied i c ≡ false)
  pub first : IsBirthAt i a b
  pub second : IsBirthAt i c b

-- an image is sound
pub record IsSound (i : ImageData) : Type 0 where
  pub frames : HasFrames i
  pub roots : (r : Root) (value : ℕ) → root_value i r ≡ Some value → IsGood i value
  pub fields : (a k value : ℕ) → IsReached i a → field i a k ≡ Some value → IsGood i value
  pub alone : (a c b : ℕ) → AreTwins i b a c → ⊥
