-- Scans leave how many words and bits pages have.
use Rattle.std.proofs.Common.{◌≡◌, ℕ, zero, suc, ◌+◌, ◌%◌, Bool, List, [], ◌∷◌, ◌++◌, length, get_or}
use Rattle.std.proofs.Common.{Option, None, Some, refl, sym, ◌∙◌, ap, subst, true, false}
use Rattle.std.specs.List.{slice_get}
use Rattle.std.specs.Prelude.{if◌then◌else◌}
use Rattle.std.proofs.Math.ListN.{length-set}
use Rattle.refword.specs.Words.{bits_of}
use Rattle.model.specs.Bits.{put_bit}
use Rattle.model.specs.References.{read_reference}
use Rattle.model.specs.States.{Reference, change_at, change_found}
use Rattle.page.specs.declared.owned.OwnedPage.{OwnedPage}
use Rattle.page.specs.declared.owned.Part.{Part}
use Rattle.part_scans.specs.Scenes.{SceneState, marked_in}
use Rattle.part_scans.specs.Scans.{Scans, end_on, is_own, mark_bits, mark_on, mark_own, mark_target, mark_word, mark_words, own_index}
use Rattle.part_scans.specs.Scans.{all_taken, scan_own, send_words, word_of, write_on}
use Rattle.heap.specs.Owning.{AllScanned}

-- a page has as many words and bits as another
pub record IsSized (p q : OwnedPage) : Type 0 where
  pub frame : length q.frame ≡ length p.frame
  pub marked : length q.marked ≡ length p.marked
  pub grey : length q.grey ≡ length p.grey

abbrev pub AreSized : List OwnedPage → List OwnedPage → Type 0
AreSized [] [] = Unit {0}
AreSized [] (q ∷ qs) = true ≡ false
AreSized (p ∷ ps) [] = true ≡ false
AreSized (p ∷ ps) (q ∷ qs) = IsSized p q × AreSized ps qs

sized_same : (ps : List OwnedPage) → AreSized ps ps
sized_same [] = tt
sized_same (p ∷ ps) = (record { frame = refl; marked = refl; grey = refl }, sized_same ps)

sized_then : (ps qs rs : List OwnedPage) → AreSized ps qs → AreSized qs rs → AreSized ps rs
sized_then [] [] [] a b = tt
sized_then [] [] (r ∷ rs) a b = absurd (cc)
sized_then [] (q ∷ qs) rs a b = absurd (cc)
sized_then (p ∷ ps) [] rs a b = absurd (cc)
sized_then (p ∷ ps) (q ∷ qs) [] a b = absurd (cc)
sized_then (p ∷ ps) (q ∷ qs) (r ∷ rs) a b = (
  record {
    frame = b.0.frame ∙ a.0.frame;
    marked = b.0.marked ∙ a.0.marked;
    grey = b.0.grey ∙ a.0.grey;
  },
  sized_then ps qs rs a.1 b.1,
)

sized_change : (ps : List OwnedPage) (i : ℕ) (f : OwnedPage → OwnedPage) → ((p : OwnedPage) → IsSized p (f p))
    → AreSized ps (change_at ps i f)
sized_change [] i f k = tt
sized_change (p ∷ ps) zero f k = (k p, sized_same ps)
sized_change (p ∷ ps) (suc i) f k = by_found (slice_get ps i) refl (sized_change ps i f k)
  where
    by_found : (o : Option OwnedPage) → slice_get ps i ≡ o → AreSized ps (change_at ps i f)
        → AreSized (p ∷ ps) (change_found (p ∷ ps) (suc i) o f)
    by_found None e rest = sized_same (p ∷ ps)
    by_found (Some q) e rest = (
      record { frame = refl; marked = refl; grey = refl },
      subst (λ o. AreSized ps (change_found ps i o f)) e rest,
    )

sized_write : (o v : ℕ) (p : OwnedPage) → IsSized p (write_on o v p)
unfolding write_on
sized_write o v p = record { frame = length-set p.frame o v; marked = refl; grey = refl }

sized_mark : (o : ℕ) (p : OwnedPage) → IsSized p (mark_on o p)
unfolding mark_on
sized_mark o p = record {
  frame = refl;
  marked = length-set p.marked o true;
  grey = by_bit (get_or p.marked o false);
}
  where
    by_bit : (b : Bool) → length (if b then p.grey else put_bit o true p.grey) ≡ length p.grey
    by_bit true = refl
    by_bit false = length-set p.grey o true

sized_end : (o : ℕ) (p : OwnedPage) → IsSized p (end_on o p)
unfolding end_on
sized_end o p = record { frame = refl; marked = refl; grey = length-set p.grey o false }

sized_own : (s : SceneState) (first : ℕ) (ps : List OwnedPage) (a : ℕ) → AreSized ps (mark_own s first ps a)
unfolding mark_own
sized_own s first ps a = by_place (is_own s first (length ps) a)
  where
    by_place : (b : Bool)
        → AreSized ps (if b then change_at ps (own_index s first a) (mark_on (a % s.words)) else ps)
    by_place true = sized_change ps (own_index s first a) (mark_on (a % s.words)) (sized_mark (a % s.words))
    by_place false = sized_same ps

sized_target : (s : SceneState) (first : ℕ) (ps : List OwnedPage) (v : Reference)
    → AreSized ps (mark_target s first ps v)
sized_target s first ps None = sized_same ps
sized_target s first ps (Some w) = sized_own s first ps w.0

sized_word : (s : SceneState) (first : ℕ) (ps : List OwnedPage) (i o : ℕ) → AreSized ps (mark_word s first ps i o)
unfolding mark_word
sized_word s first ps i o = by_bits (word_of ps i o)
  where
    by_bits : (b : Option ℕ) → AreSized ps (mark_bits s first ps i o b)
    by_bits None = sized_same ps
    by_bits (Some zero) = sized_same ps
    by_bits (Some (suc b)) =
        let v : Reference = marked_in s (read_reference (suc b)) in
        sized_then ps (change_at ps i (write_on o (bits_of v)))
        (mark_target s first (change_at ps i (write_on o (bits_of v))) v)
        (sized_change ps i (write_on o (bits_of v)) (sized_write o (bits_of v)))
        (sized_target s first (change_at ps i (write_on o (bits_of v))) v)

sized_words : (s : SceneState) (first : ℕ) (ps : List OwnedPage) (i o k : ℕ)
    → AreSized ps (mark_words s first ps i o k)
sized_words s first ps i o zero = sized_same ps
sized_words s first ps i o (suc k) =
    sized_then ps (mark_word s first ps i o) (mark_words s first (mark_word s first ps i o) i (o + 1) k)
    (sized_word s first ps i o) (sized_words s first (mark_word s first ps i o) i (o + 1) k)

sized_scan : (s : SceneState) (first : ℕ) (ps : List OwnedPage) (i o k : ℕ) → AreSized ps (scan_own s first ps i o k)
unfolding scan_own
sized_scan s first ps i o k =
    sized_then ps (mark_words s first ps i (o + 1) k) (change_at (mark_words s first ps i (o + 1) k) i (end_on o))
    (sized_words s first ps i (o + 1) k)
    (sized_change (mark_words s first ps i (o + 1) k) i (end_on o) (sized_end o))

pub sized_scans : (s : SceneState) (first : ℕ) (xs : List (ℕ × ℕ × ℕ)) (ps : List OwnedPage) (sent : List Reference)
    (qs : List OwnedPage) (after : List Reference) → Scans s first xs ps sent qs after → AreSized ps qs
sized_scans s first [] ps sent qs after k = subst (AreSized ps) (sym k.0) (sized_same ps)
sized_scans s first (x ∷ xs) ps sent qs after k =
    sized_then ps (scan_own s first ps x.0 x.1 x.2) qs (sized_scan s first ps x.0 x.1 x.2)
    (sized_scans s first xs (scan_own s first ps x.0 x.1 x.2)
    (sent ++ send_words s first ps x.0 (x.1 + 1) x.2) qs after k.1)

-- ---- parts

-- parts have the same pages, with as many words and bits
abbrev pub SizedParts : List Part → List Part → Type 0
SizedParts [] [] = Unit {0}
SizedParts [] (q ∷ qs) = true ≡ false
SizedParts (p ∷ ps) [] = true ≡ false
SizedParts (p ∷ ps) (q ∷ qs) = (q.first ≡ p.first) × AreSized p.pages.items q.pages.items × SizedParts ps qs

sized_taken : (s : SceneState) (first : ℕ) (ps : List OwnedPage) (ns : List Reference)
    → AreSized ps (all_taken s first ps ns)
sized_taken s first ps [] = sized_same ps
sized_taken s first ps (n ∷ ns) =
    sized_then ps (mark_target s first ps n) (all_taken s first (mark_target s first ps n) ns)
    (sized_target s first ps n) (sized_taken s first (mark_target s first ps n) ns)

pub scanned_sized : (s : SceneState) (notes : List Reference) (most : ℕ) (ps qs : List Part)
    → AllScanned s notes most ps qs → SizedParts ps qs
scanned_sized s notes most [] [] k = tt
scanned_sized s notes most [] (q ∷ qs) k = absurd (cc)
scanned_sized s notes most (p ∷ ps) [] k = absurd (cc)
scanned_sized s notes most (p ∷ ps) (q ∷ qs) k = (
  k.0.first,
  sized_then p.pages.items (all_taken s p.first p.pages.items notes) q.pages.items
      (sized_taken s p.first p.pages.items notes)
      (sized_scans s p.first k.0.scans.places (all_taken s p.first p.pages.items notes) p.sent.items q.pages.items
      q.sent.items k.0.scans.scans),
  scanned_sized s notes most ps qs k.2,
)

pub long_sized : (ps qs : List OwnedPage) → AreSized ps qs → length qs ≡ length ps
long_sized [] [] k = refl
long_sized [] (q ∷ qs) k = absurd (cc)
long_sized (p ∷ ps) [] k = absurd (cc)
long_sized (p ∷ ps) (q ∷ qs) k = ap suc (long_sized ps qs k.1)
