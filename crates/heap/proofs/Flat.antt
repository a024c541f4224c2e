-- The pages of parts in one list, with the indexes of their records.
use Rattle.std.proofs.Common.{◌≡◌, ℕ, zero, suc, ◌+◌, ◌≤◌, Bool, List, [], ◌∷◌, ◌++◌, length, map, set}
use Rattle.std.proofs.Common.{Option, None, Some, refl, sym, ◌∙◌, ap, arith, subst}
use Rattle.std.specs.List.{slice_get}
use Rattle.model.specs.declared.records.Page.{Page}
use Rattle.model.specs.Stores.{changed_frame, changed_in, frame_in}
use Rattle.page.specs.declared.owned.OwnedPage.{OwnedPage}
use Rattle.page.specs.declared.owned.Part.{Part}
use Rattle.page.specs.Owned.{Swapped, SwappedParts, lent_frame, put_frame, words_or}
use Rattle.page_rows.specs.Owning.{SwappedRows, SwappedRowsOf}
use Rattle.heap.specs.Owning.{ArePlaced}
use Rattle.heap.proofs.Slots.{AreRising, Slots, SwapsIn, get_in, put_in, rising_more}

-- what pages have, each with the index of its record
abbrev pub flat : {X : Type 0} → (OwnedPage → X) → ℕ → List OwnedPage → List (ℕ × X)
flat f i [] = []
flat f i (p ∷ ps) = (i, f p) ∷ flat f (i + 1) ps

abbrev pub flat_parts : {X : Type 0} → (OwnedPage → X) → List Part → List (ℕ × X)
flat_parts f [] = []
flat_parts f (p ∷ ps) = flat f p.first p.pages.items ++ flat_parts f ps

abbrev pub words_in : OwnedPage → List ℕ
words_in p = p.frame

abbrev pub marks_in : OwnedPage → List Bool
marks_in p = p.marked

abbrev pub greys_in : OwnedPage → List Bool
greys_in p = p.grey

-- the slot of a page's words, and that of a bitmap
abbrev pub frame_slot : List Page → Slots
frame_slot records i = frame_in (slice_get records i)

abbrev pub row_slot : Slots
row_slot i = Some i

-- ---- words

pub put_frame_is : (records : List Page) (i : ℕ) (fs : List (List ℕ)) (ws : List ℕ)
    → put_frame records i fs ws ≡ put_in fs (frame_slot records i) ws
put_frame_is records i fs ws = by_slot (frame_in (slice_get records i))
  where
    by_frame : (f : ℕ) (o : Option (List ℕ)) → slice_get fs f ≡ o → changed_frame fs f o (λ old. ws) ≡ set fs f ws
    by_frame f None e = sym (none_set fs f e)
      where
        none_set : (xs : List (List ℕ)) (n : ℕ) → slice_get xs n ≡ None → set xs n ws ≡ xs
        none_set [] n z = refl
        none_set (x ∷ xs) zero z = absurd (cc)
        none_set (x ∷ xs) (suc n) z = ap (λ us. x ∷ us) (none_set xs n z)
    by_frame f (Some old) e = refl

    by_slot : (o : Option ℕ) → changed_in fs o (λ old. ws) ≡ put_in fs o ws
    by_slot None = refl
    by_slot (Some f) = by_frame f (slice_get fs f) refl

pub lent_is : (records : List Page) (i : ℕ) (fs : List (List ℕ)) (ws : List ℕ)
    → lent_frame records i fs ws ≡ get_in fs (frame_slot records i) ws
lent_is records i fs ws = by_slot (frame_in (slice_get records i))
  where
    by_slot : (o : Option ℕ) → words_or fs o ws ≡ get_in fs o ws
    by_slot None = refl
    by_slot (Some f) = refl

pub swapped_words : (records : List Page) (i : ℕ) (fs : List (List ℕ)) (ps : List OwnedPage) (gs : List (List ℕ))
    (qs : List OwnedPage) → Swapped records i fs ps gs qs
    → SwapsIn (frame_slot records) fs (flat words_in i ps) gs (map words_in qs)
swapped_words records i fs [] gs [] k = k
swapped_words records i fs [] gs (q ∷ qs) k = absurd (cc)
swapped_words records i fs (p ∷ ps) gs [] k = absurd (cc)
swapped_words records i fs (p ∷ ps) gs (q ∷ qs) k = (
  ap words_in k.0 ∙ lent_is records i fs p.frame,
  subst (λ us. SwapsIn (frame_slot records) us (flat words_in (i + 1) ps) gs (map words_in qs))
      (put_frame_is records i fs p.frame)
      (swapped_words records (i + 1) (put_frame records i fs p.frame) ps gs qs k.1),
)

-- ---- bitmaps

pub swapped_marks : (i : ℕ) (mark todo : List (List Bool)) (ps : List OwnedPage) (m g : List (List Bool))
    (qs : List OwnedPage) → SwappedRows i mark todo ps m g qs
    → SwapsIn row_slot mark (flat marks_in i ps) m (map marks_in qs)
swapped_marks i mark todo [] m g [] k = k.0
swapped_marks i mark todo [] m g (q ∷ qs) k = absurd (cc)
swapped_marks i mark todo (p ∷ ps) m g [] k = absurd (cc)
swapped_marks i mark todo (p ∷ ps) m g (q ∷ qs) k =
    (ap marks_in k.0, swapped_marks (i + 1) (set mark i p.marked) (set todo i p.grey) ps m g qs k.1)

pub swapped_greys : (i : ℕ) (mark todo : List (List Bool)) (ps : List OwnedPage) (m g : List (List Bool))
    (qs : List OwnedPage) → SwappedRows i mark todo ps m g qs
    → SwapsIn row_slot todo (flat greys_in i ps) g (map greys_in qs)
swapped_greys i mark todo [] m g [] k = k.1
swapped_greys i mark todo [] m g (q ∷ qs) k = absurd (cc)
swapped_greys i mark todo (p ∷ ps) m g [] k = absurd (cc)
swapped_greys i mark todo (p ∷ ps) m g (q ∷ qs) k =
    (ap greys_in k.0, swapped_greys (i + 1) (set mark i p.marked) (set todo i p.grey) ps m g qs k.1)

-- ---- several parts

swaps_both : {X : Type 0} (s : Slots) (xs : List X) (vs us : List (ℕ × X)) (ys zs ws ts : List X)
    → SwapsIn s xs vs ys ws → SwapsIn s ys us zs ts → SwapsIn s xs (vs ++ us) zs (ws ++ ts)
swaps_both s xs [] us ys zs [] ts k l = subst (λ a. SwapsIn s a us zs ts) k l
swaps_both s xs [] us ys zs (w ∷ ws) ts k l = absurd (cc)
swaps_both s xs (v ∷ vs) us ys zs [] ts k l = absurd (cc)
swaps_both s xs (v ∷ vs) us ys zs (w ∷ ws) ts k l =
    (k.0, swaps_both s (put_in xs (s v.0) v.1) vs us ys zs ws ts k.1 l)

-- what the pages of parts have
abbrev pub all_in : {X : Type 0} → (OwnedPage → X) → List Part → List X
all_in f [] = []
all_in f (p ∷ ps) = map f p.pages.items ++ all_in f ps

pub parts_words : (records : List Page) (fs : List (List ℕ)) (ps : List Part) (gs : List (List ℕ)) (qs : List Part)
    → SwappedParts records fs ps gs qs
    → SwapsIn (frame_slot records) fs (flat_parts words_in ps) gs (all_in words_in qs)
parts_words records fs [] gs [] k = k
parts_words records fs [] gs (q ∷ qs) k = absurd (cc)
parts_words records fs (p ∷ ps) gs [] k = absurd (cc)
parts_words records fs (p ∷ ps) gs (q ∷ qs) k =
    swaps_both (frame_slot records) fs (flat words_in p.first p.pages.items) (flat_parts words_in ps) k.0 gs
    (map words_in q.pages.items) (all_in words_in qs)
    (swapped_words records p.first fs p.pages.items k.0 q.pages.items k.1)
    (parts_words records k.0 ps gs qs k.3)

pub parts_marks : (mark todo : List (List Bool)) (ps : List Part) (m g : List (List Bool)) (qs : List Part)
    → SwappedRowsOf mark todo ps m g qs → SwapsIn row_slot mark (flat_parts marks_in ps) m (all_in marks_in qs)
parts_marks mark todo [] m g [] k = k.0
parts_marks mark todo [] m g (q ∷ qs) k = absurd (cc)
parts_marks mark todo (p ∷ ps) m g [] k = absurd (cc)
parts_marks mark todo (p ∷ ps) m g (q ∷ qs) k =
    swaps_both row_slot mark (flat marks_in p.first p.pages.items) (flat_parts marks_in ps) k.0 m
    (map marks_in q.pages.items) (all_in marks_in qs)
    (swapped_marks p.first mark todo p.pages.items k.0 k.1 q.pages.items k.2)
    (parts_marks k.0 k.1 ps m g qs k.4)

pub parts_greys : (mark todo : List (List Bool)) (ps : List Part) (m g : List (List Bool)) (qs : List Part)
    → SwappedRowsOf mark todo ps m g qs → SwapsIn row_slot todo (flat_parts greys_in ps) g (all_in greys_in qs)
parts_greys mark todo [] m g [] k = k.1
parts_greys mark todo [] m g (q ∷ qs) k = absurd (cc)
parts_greys mark todo (p ∷ ps) m g [] k = absurd (cc)
parts_greys mark todo (p ∷ ps) m g (q ∷ qs) k =
    swaps_both row_slot todo (flat greys_in p.first p.pages.items) (flat_parts greys_in ps) k.1 g
    (map greys_in q.pages.items) (all_in greys_in qs)
    (swapped_greys p.first mark todo p.pages.items k.0 k.1 q.pages.items k.2)
    (parts_greys k.0 k.1 ps m g qs k.4)

-- ---- order

rising_flat : {X : Type 0} (f : OwnedPage → X) (low i : ℕ) (ps : List OwnedPage) (vs : List (ℕ × X)) → low ≤ i
    → AreRising (i + length ps) vs → AreRising low (flat f i ps ++ vs)
rising_flat f low i [] vs l r = rising_more low (i + 0) vs (omega (arith, l)) r
rising_flat f low i (p ∷ ps) vs l r =
    let next : i + 1 + length ps ≡ i + suc (length ps) = omega arith in
    (l, rising_flat f (i + 1) (i + 1) ps vs (omega arith) (subst (λ n. AreRising n vs) (sym next) r))

pub placed_rising : {X : Type 0} (f : OwnedPage → X) (n low : ℕ) (ps : List Part) → ArePlaced n low ps
    → AreRising low (flat_parts f ps)
placed_rising f n low [] k = tt
placed_rising f n low (p ∷ ps) k =
    rising_flat f low p.first p.pages.items (flat_parts f ps) k.0
    (placed_rising f n (p.first + length p.pages.items) ps k.1)
