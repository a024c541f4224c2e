-- Threads scan parts that have the words of their pages.
use Rattle.std.proofs.Common.{◌≡◌, ℕ, suc, ◌+◌, ◌*◌, ◌≤◌, ◌<◌, Bool, List, [], ◌∷◌, length, get_or, nat_le}
use Rattle.std.proofs.Common.{Option, None, Some, refl, sym, ◌∙◌, ap, arith, subst, true, false}
use Rattle.std.specs.List.{slice_get}
use Rattle.std.proofs.lemmas.Option.{same_Some}
use Rattle.model.specs.declared.records.Page.{Page}
use Rattle.model.specs.Owning.{IsStore}
use Rattle.model.specs.States.{Reference}
use Rattle.std.specs.Prelude.{if◌then◌else◌}
use Rattle.model.specs.Stores.{StoreState, frame_in, record_count}
use Rattle.page.specs.declared.owned.OwnedPage.{OwnedPage}
use Rattle.page.specs.declared.owned.Part.{Part}
use Rattle.page.specs.Owned.{AreShort, SwappedParts, lent_frame}
use Rattle.part_scans.specs.Scenes.{SceneState}
use Rattle.part_scans.specs.Scans.{PartScanned}
use Rattle.heap.specs.Owning.{AllScanned, ArePlaced, AreWordless, AreWordlessPages}
use Rattle.heap.proofs.Flat.{flat, flat_parts, frame_slot, lent_is, parts_words, placed_rising, words_in}
use Rattle.heap.proofs.Lent.{AreAsWords, WordsLent, long_words, words_later, words_taken}
use Rattle.heap.proofs.Shapes.{AreSized, SizedParts, long_sized}
use Rattle.heap.proofs.Sizing.{AreLong, AreMatched, long_both, matched_alike}
use Rattle.heap.proofs.Slots.{AreOwn, puts, puts_over, swaps_puts}

-- no two pages have one frame
pub own_frames : (s : StoreState) → IsStore s → AreOwn (frame_slot s.pages)
own_frames s h i j f a b = by_pages (slice_get s.pages i) (slice_get s.pages j) refl refl a b
  where
    by_pages : (o p : Option Page) → slice_get s.pages i ≡ o → slice_get s.pages j ≡ p → frame_in o ≡ Some f
        → frame_in p ≡ Some f → i ≡ j
    by_pages None p c d x y = absurd (cc)
    by_pages (Some o) None c d x y = absurd (cc)
    by_pages (Some o) (Some p) c d x y =
        let one = h.owning.owned i f o c x in
        let two = h.owning.owned j f p d y in
        let same : i + 1 ≡ j + 1 = same_Some _ _ (same_Some _ _ (sym one ∙ two)) in
        omega (arith, same)

-- ---- what each thread does

pub each_scanned : (s : SceneState) (notes : List Reference) (most : ℕ) (ps qs : List Part) → length qs ≡ length ps
    → ((i : ℕ) (d : Part) → i < length ps
    → PartScanned s notes (get_or ps i d) (get_or qs i d) × ((get_or qs i d).scanned ≤ most))
    → AllScanned s notes most ps qs
each_scanned s notes most [] [] e k = tt
each_scanned s notes most [] (q ∷ qs) e k = absurd (cc)
each_scanned s notes most (p ∷ ps) [] e k = absurd (cc)
each_scanned s notes most (p ∷ ps) (q ∷ qs) e k =
    let here = k 0 p (omega arith) in (
      here.0,
      here.1,
      each_scanned s notes most ps qs (less (length qs) (length ps) e) (λ i d l. k (suc i) d (omega (arith, l))),
    )
  where
    less : (m n : ℕ) → suc m ≡ suc n → m ≡ n
    less m n z = omega (arith, z)

-- ---- words

wordless_long : (records : List Page) (fs : List (List ℕ)) (i : ℕ) (ps qs rs : List OwnedPage) → AreWordlessPages ps
    → WordsLent records fs i ps qs → AreSized qs rs → AreLong (frame_slot records) fs (flat words_in i rs)
wordless_long records fs i [] [] [] w k l = tt
wordless_long records fs i [] [] (r ∷ rs) w k l = absurd (cc)
wordless_long records fs i [] (q ∷ qs) rs w k l = absurd (cc)
wordless_long records fs i (p ∷ ps) [] rs w k l = absurd (cc)
wordless_long records fs i (p ∷ ps) (q ∷ qs) [] w k l = absurd (cc)
wordless_long records fs i (p ∷ ps) (q ∷ qs) (r ∷ rs) w k l = (
  l.0.frame ∙ ap (λ (x : OwnedPage). length x.frame) k.0
      ∙ ap (λ ws. length (lent_frame records i fs ws)) w.0
      ∙ ap length (lent_is records i fs []),
  wordless_long records fs (i + 1) ps qs rs w.1 k.1 l.1,
)

-- lent parts that are as long, of parts without words
pub record AreWorded (records : List Page) (fs : List (List ℕ)) (ps left : List Part) : Type 0 where
  pub long : AreLong (frame_slot records) fs (flat_parts words_in left)
  pub matched : AreMatched ps left

worded_from : (records : List Page) (fs : List (List ℕ)) (n low : ℕ) (now : List (List ℕ)) (ps : List Part)
    (gs : List (List ℕ)) (qs rs : List Part) → AreOwn (frame_slot records) → AreWordless ps → ArePlaced n low ps
    → AreAsWords records low fs now → SwappedParts records now ps gs qs → SizedParts qs rs
    → AreWorded records fs ps rs
worded_from records fs n low now [] gs [] [] own w p a k l = record { long = tt; matched = tt }
worded_from records fs n low now [] gs [] (r ∷ rs) own w p a k l = absurd (cc)
worded_from records fs n low now [] gs (q ∷ qs) rs own w p a k l = absurd (cc)
worded_from records fs n low now (x ∷ xs) gs [] rs own w p a k l = absurd (cc)
worded_from records fs n low now (x ∷ xs) gs (q ∷ qs) [] own w p a k l = absurd (cc)
worded_from records fs n low now (x ∷ xs) gs (q ∷ qs) (r ∷ rs) own w p a k l =
    let words = words_taken records fs x.first now x.pages.items k.0 q.pages.items own
    (words_later records low x.first fs now p.0 a) k.1 in
    let rest = worded_from records fs n (x.first + length x.pages.items) k.0 xs gs qs rs own w.1 p.1 words.words k.3 l.2 in
    let first : r.first ≡ x.first = l.0 ∙ ap (λ (y : Part). y.first) k.2 in
    record {
      long = long_both (frame_slot records) fs (flat words_in r.first r.pages.items) (flat_parts words_in rs)
          (subst (λ i. AreLong (frame_slot records) fs (flat words_in i r.pages.items)) (sym first)
          (wordless_long records fs x.first x.pages.items q.pages.items r.pages.items w.0 words.lent l.1)) rest.long;
      matched = (
        sym first,
        sym (long_sized q.pages.items r.pages.items l.1
            ∙ long_words records fs x.first x.pages.items q.pages.items words.lent),
        rest.matched,
      );
    }

pub are_worded : (records : List Page) (fs : List (List ℕ)) (n : ℕ) (ps : List Part) (gs : List (List ℕ))
    (qs rs : List Part) → AreOwn (frame_slot records) → AreWordless ps → ArePlaced n 0 ps
    → SwappedParts records fs ps gs qs → SizedParts qs rs → AreWorded records fs ps rs
are_worded records fs n ps gs qs rs own w p k l =
    worded_from records fs n 0 fs ps gs qs rs own w p (λ j d e. refl) k l

-- the frames in the end
pub frames_after : (records : List Page) (fs : List (List ℕ)) (n : ℕ) (ps : List Part) (between : List (List ℕ))
    (lent left : List Part) (after : List (List ℕ)) (back : List Part) → AreOwn (frame_slot records)
    → ArePlaced n 0 ps → SwappedParts records fs ps between lent → AreMatched ps left
    → SwappedParts records between left after back
    → after ≡ puts (frame_slot records) fs (flat_parts words_in left)
frames_after records fs n ps between lent left after back own p k m l =
    swaps_puts (frame_slot records) between (flat_parts words_in left) after _
    (parts_words records between left after back l)
    ∙ ap (λ us. puts (frame_slot records) us (flat_parts words_in left))
    (swaps_puts (frame_slot records) fs (flat_parts words_in ps) between _ (parts_words records fs ps between lent k))
    ∙ puts_over (frame_slot records) fs 0 (flat_parts words_in ps) (flat_parts words_in left) own
    (placed_rising words_in n 0 ps p) (matched_alike words_in ps left m)

-- ---- numbers

placed_end : (n low : ℕ) (ps : List Part) → ArePlaced n low ps → low ≤ n
placed_end n low [] k = k
placed_end n low (p ∷ ps) k =
    let l = placed_end n (p.first + length p.pages.items) ps k.1 in omega (arith, k.0, l)

pub placed_short : (n low : ℕ) (ps : List Part) → n < 18446744073709551616 → ArePlaced n low ps → AreShort ps
placed_short n low [] l k = tt
placed_short n low (p ∷ ps) l k =
    let e = placed_end n (p.first + length p.pages.items) ps k.1 in
    (omega (arith, e, l), placed_short n (p.first + length p.pages.items) ps l k.1)

pub matched_placed : (n low : ℕ) (ps qs : List Part) → AreMatched ps qs → ArePlaced n low ps → ArePlaced n low qs
matched_placed n low [] [] m k = k
matched_placed n low [] (q ∷ qs) m k = absurd (cc)
matched_placed n low (p ∷ ps) [] m k = absurd (cc)
matched_placed n low (p ∷ ps) (q ∷ qs) m k =
    let end : p.first + length p.pages.items ≡ q.first + length q.pages.items = λ i. m.0 i + m.1 i in (
      subst (λ i. low ≤ i) m.0 k.0,
      matched_placed n (q.first + length q.pages.items) ps qs m.2 (subst (λ i. ArePlaced n i ps) end k.1),
    )

record_small : (f p : ℕ) → p ≤ 1048575 → f ≤ 1048575 → record_count f p < 18446744073709551616
record_small f p a b = by_test (nat_le p (2 * f))
  where
    by_test : (c : Bool) → (if c then p else 2 * f) < 18446744073709551616
    by_test true = omega (arith, a)
    by_test false = omega (arith, b)

pub records_small : (s : StoreState) → IsStore s → length s.pages < 18446744073709551616
records_small s h =
    subst (λ n. n < 18446744073709551616) (sym h.sized.pages)
    (record_small (length s.frames) s.count h.sized.count h.sized.frame_count)

pub changed_part : (s : SceneState) (notes : List Reference) (most : ℕ) (x a y b : Part) → a ≡ x → b ≡ y
    → PartScanned s notes a b → b.scanned ≤ most
    → PartScanned s notes x y × (y.scanned ≤ most)
changed_part s notes most x a y b e d k l = (
  subst (λ p. PartScanned s notes p y) e (subst (λ q. PartScanned s notes a q) d k),
  subst (λ (q : Part). q.scanned ≤ most) d l,
)
