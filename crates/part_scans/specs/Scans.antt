-- Scans of objects on the pages of a part.
use Rattle.std.specs.Prelude.{◌≡◌, ℕ, zero, suc, ◌+◌, ◌-◌, ◌/◌, ◌%◌, ◌<◌, ◌&&◌, nat_lt, Bool, true, false}
use Rattle.std.specs.Prelude.{List, [], ◌∷◌, ◌++◌, length, get_or, slice_get, slice_set, Option, None, Some}
use Rattle.std.specs.Prelude.{if◌then◌else◌, option_and_then}
use Rattle.refword.specs.Words.{bits_of}
use Rattle.model.specs.Bits.{put_bit}
use Rattle.model.specs.References.{read_reference}
use Rattle.model.specs.States.{Reference, change_at}
use Rattle.page.specs.declared.owned.OwnedPage.{OwnedPage}
use Rattle.page.specs.declared.owned.Part.{Part}
use Rattle.part_scans.specs.Scenes.{SceneState, marked_in, refs_of}

-- Pages are those of a part: the first one has the record of index `first`, and page i of the part the number
-- first + i + 1.

-- which of these pages an address is on
abbrev pub own_index : SceneState → ℕ → ℕ → ℕ
own_index s first a = a / s.words - 1 - first

-- an address is on one of n pages
abbrev pub is_own : SceneState → ℕ → ℕ → ℕ → Bool
is_own s first n a = nat_lt first (a / s.words) && nat_lt (own_index s first a) n

-- a page on which the object at an offset is marked: it becomes grey, if it wasn't marked before
unfoldable pub mark_on : ℕ → OwnedPage → OwnedPage
mark_on o p = record p {
  marked = put_bit o true p.marked;
  grey = if get_or p.marked o false then p.grey else put_bit o true p.grey;
}

-- a page on which the object at an offset isn't grey any more
unfoldable pub end_on : ℕ → OwnedPage → OwnedPage
end_on o p = record p { grey = put_bit o false p.grey }

-- a page with another word at an offset
unfoldable pub write_on : ℕ → ℕ → OwnedPage → OwnedPage
write_on o v p = record p { frame = slice_set p.frame o v }

-- the pages after the object at an address is marked, if it is on one of them
unfoldable pub mark_own : SceneState → ℕ → List OwnedPage → ℕ → List OwnedPage
mark_own s first ps a =
    if is_own s first (length ps) a then change_at ps (own_index s first a) (mark_on (a % s.words)) else ps

-- what is sent to other parts, if it is on none of n pages
unfoldable pub send_other : SceneState → ℕ → ℕ → ℕ → List Reference
send_other s first n a = if is_own s first n a then [] else Some (a, false) ∷ []

-- the word at an offset of a page
abbrev pub word_of : List OwnedPage → ℕ → ℕ → Option ℕ
word_of ps i o = option_and_then (λ (p : OwnedPage). slice_get p.frame o) (slice_get ps i)

-- one reference

-- the pages after the object of a marked reference is marked
abbrev pub mark_target : SceneState → ℕ → List OwnedPage → Reference → List OwnedPage
mark_target s first ps None = ps
mark_target s first ps (Some w) = mark_own s first ps w.0

abbrev pub send_target : SceneState → ℕ → ℕ → Reference → List Reference
send_target s first n None = []
send_target s first n (Some w) = send_other s first n w.0

-- the pages after the reference at an offset of a page, whose bits these are, is marked and written back: nothing
-- happens, if they are 0
abbrev pub mark_bits : SceneState → ℕ → List OwnedPage → ℕ → ℕ → Option ℕ → List OwnedPage
mark_bits s first ps i o None = ps
mark_bits s first ps i o (Some zero) = ps
mark_bits s first ps i o (Some (suc b)) =
    mark_target s first (change_at ps i (write_on o (bits_of (marked_in s (read_reference (suc b))))))
    (marked_in s (read_reference (suc b)))

abbrev pub send_bits : SceneState → ℕ → ℕ → Option ℕ → List Reference
send_bits s first n None = []
send_bits s first n (Some zero) = []
send_bits s first n (Some (suc b)) = send_target s first n (marked_in s (read_reference (suc b)))

unfoldable pub mark_word : SceneState → ℕ → List OwnedPage → ℕ → ℕ → List OwnedPage
mark_word s first ps i o = mark_bits s first ps i o (word_of ps i o)

unfoldable pub send_word : SceneState → ℕ → List OwnedPage → ℕ → ℕ → List Reference
send_word s first ps i o = send_bits s first (length ps) (word_of ps i o)

-- one object

-- the same of k references, from an offset on
abbrev pub mark_words : SceneState → ℕ → List OwnedPage → ℕ → ℕ → ℕ → List OwnedPage
mark_words s first ps i o zero = ps
mark_words s first ps i o (suc k) = mark_words s first (mark_word s first ps i o) i (o + 1) k

abbrev pub send_words : SceneState → ℕ → List OwnedPage → ℕ → ℕ → ℕ → List Reference
send_words s first ps i o zero = []
send_words s first ps i o (suc k) =
    send_word s first ps i o ++ send_words s first (mark_word s first ps i o) i (o + 1) k

-- the pages after the object at an offset of a page, which has k references, is scanned completely
unfoldable pub scan_own : SceneState → ℕ → List OwnedPage → ℕ → ℕ → ℕ → List OwnedPage
scan_own s first ps i o k = change_at (mark_words s first ps i (o + 1) k) i (end_on o)

-- a reference that names an object leads to a page that has a number
abbrev pub leads_on : SceneState → Reference → Bool
leads_on s None = true
leads_on s (Some w) = nat_lt 0 (w.0 / s.words)

abbrev pub bits_lead_on : SceneState → Option ℕ → Bool
bits_lead_on s None = true
bits_lead_on s (Some zero) = true
bits_lead_on s (Some (suc b)) = leads_on s (marked_in s (read_reference (suc b)))

-- k words from an offset of a page on exist, and lead to pages
abbrev pub AllLeadOn : SceneState → List OwnedPage → ℕ → ℕ → ℕ → Type 0
AllLeadOn s ps i o k = (j : ℕ) → j < k
    → ((b : ℕ) × (word_of ps i (o + j) ≡ Some b)) × (bits_lead_on s (word_of ps i (o + j)) ≡ true)

-- the bit of an offset of a page, in one of its bitmaps
abbrev pub bit_in : Option (List Bool) → ℕ → Bool
bit_in None o = false
bit_in (Some row) o = get_or row o false

abbrev pub is_marked_own : List OwnedPage → ℕ → ℕ → Bool
is_marked_own ps i o = bit_in (option_and_then (λ (p : OwnedPage). Some p.marked) (slice_get ps i)) o

abbrev pub is_grey_own : List OwnedPage → ℕ → ℕ → Bool
is_grey_own ps i o = bit_in (option_and_then (λ (p : OwnedPage). Some p.grey) (slice_get ps i)) o

-- the object at an offset of a page may be scanned: it is marked and grey, lies on the page with its k references, and
-- they lead to pages
pub record IsScannable (s : SceneState) (ps : List OwnedPage) (i o k : ℕ) : Type 0 where
  pub grey : is_grey_own ps i o ≡ true
  pub marked : is_marked_own ps i o ≡ true
  pub refs : k ≡ refs_of s (word_of ps i o)
  pub leads : AllLeadOn s ps i (o + 1) k

-- the object at an offset of a page was scanned, and has k references; or it was left, and nothing happened
abbrev pub ScansOne : SceneState → ℕ → ℕ → ℕ → Option ℕ → List OwnedPage → List Reference → List OwnedPage
    → List Reference → Type 0
ScansOne s first i o None ps sent qs after = (qs ≡ ps) × (after ≡ sent)
ScansOne s first i o (Some k) ps sent qs after =
    IsScannable s ps i o k × (qs ≡ scan_own s first ps i o k) × (after ≡ sent ++ send_words s first ps i (o + 1) k)

-- several objects

-- objects at these places, by page of the part and offset, were scanned one after the other, with k references each:
-- from these pages, and what was sent, to others
abbrev pub Scans : SceneState → ℕ → List (ℕ × ℕ × ℕ) → List OwnedPage → List Reference → List OwnedPage
    → List Reference → Type 0
Scans s first [] ps sent qs after = (qs ≡ ps) × (after ≡ sent)
Scans s first (x ∷ xs) ps sent qs after =
    IsScannable s ps x.0 x.1 x.2
    × Scans s first xs (scan_own s first ps x.0 x.1 x.2) (sent ++ send_words s first ps x.0 (x.1 + 1) x.2) qs after

-- n objects were scanned so
pub record AreScanned (s : SceneState) (first n : ℕ) (ps : List OwnedPage) (sent : List Reference)
    (qs : List OwnedPage) (after : List Reference) : Type 0 where
  pub places : List (ℕ × ℕ × ℕ)
  pub count : length places ≡ n
  pub scans : Scans s first places ps sent qs after

-- the pages after notes of objects are taken in, one after another: those of objects on these pages
abbrev pub all_taken : SceneState → ℕ → List OwnedPage → List Reference → List OwnedPage
all_taken s first ps [] = ps
all_taken s first ps (n ∷ ns) = all_taken s first (mark_target s first ps n) ns

-- what parts have sent, one part after another
abbrev pub all_sent : List Part → List Reference
all_sent [] = []
all_sent (p ∷ ps) = p.sent.items ++ all_sent ps

-- notes were taken in on the pages of a part, and then objects of it were scanned
pub record PartScanned (s : SceneState) (notes : List Reference) (p q : Part) : Type 0 where
  pub first : q.first ≡ p.first
  pub scans : AreScanned s p.first q.scanned (all_taken s p.first p.pages.items notes) p.sent.items q.pages.items
      q.sent.items
