-- Elements that are put into slots are as long as those that they replace.
use Rattle.std.proofs.Common.{◌≡◌, ℕ, zero, suc, ◌+◌, List, [], ◌∷◌, ◌++◌, length, map, get_or, set}
use Rattle.std.proofs.Common.{Option, None, Some, refl, sym, ◌∙◌, ap, arith, subst, true, false}
use Rattle.model.specs.States.{HeapState}
use Rattle.page.specs.declared.owned.OwnedPage.{OwnedPage}
use Rattle.page.specs.declared.owned.Part.{Part}
use Rattle.heap.specs.Owning.{AreLent, ArePagesOf}
use Rattle.heap.proofs.Flat.{flat, flat_parts, frame_slot, greys_in, lent_is, marks_in, row_slot, words_in}
use Rattle.heap.proofs.Shapes.{AreSized, SizedParts}
use Rattle.heap.proofs.Slots.{AreAlike, Slots, get_in, put_in, puts}

-- each element is as long as what its slot has
abbrev pub AreLong : {X : Type 0} → Slots → List (List X) → List (ℕ × List X) → Type 0
AreLong s xs [] = Unit {0}
AreLong s xs (v ∷ vs) = (length v.1 ≡ length (get_in xs (s v.0) [])) × AreLong s xs vs

same_long : {X : Type 0} (xs ys : List (List X)) (f : ℕ) → map length xs ≡ map length ys
    → length (get_or xs f []) ≡ length (get_or ys f [])
same_long [] [] f e = refl
same_long [] (y ∷ ys) f e = absurd (cc)
same_long (x ∷ xs) [] f e = absurd (cc)
same_long (x ∷ xs) (y ∷ ys) zero e = first (length x) (length y) e
  where
    first : (m n : ℕ) → m ∷ map length xs ≡ n ∷ map length ys → m ≡ n
    first m n z = cc
same_long (x ∷ xs) (y ∷ ys) (suc f) e = same_long xs ys f (rest (length x) (length y) e)
  where
    rest : (m n : ℕ) → m ∷ map length xs ≡ n ∷ map length ys → map length xs ≡ map length ys
    rest m n z = cc

same_in : {X : Type 0} (xs ys : List (List X)) (o : Option ℕ) → map length xs ≡ map length ys
    → length (get_in xs o []) ≡ length (get_in ys o [])
same_in xs ys None e = refl
same_in xs ys (Some f) e = same_long xs ys f e

set_sized : {X : Type 0} (xs : List (List X)) (f : ℕ) (v : List X) → length v ≡ length (get_or xs f [])
    → map length (set xs f v) ≡ map length xs
set_sized [] f v e = refl
set_sized (x ∷ xs) zero v e = ap (λ n. n ∷ map length xs) e
set_sized (x ∷ xs) (suc f) v e = ap (λ ns. length x ∷ ns) (set_sized xs f v e)

put_sized : {X : Type 0} (xs : List (List X)) (o : Option ℕ) (v : List X) → length v ≡ length (get_in xs o [])
    → map length (put_in xs o v) ≡ map length xs
put_sized xs None v e = refl
put_sized xs (Some f) v e = set_sized xs f v e

long_still : {X : Type 0} (s : Slots) (xs ys : List (List X)) (vs : List (ℕ × List X)) → map length xs ≡ map length ys
    → AreLong s xs vs → AreLong s ys vs
long_still s xs ys [] e k = tt
long_still s xs ys (v ∷ vs) e k = (k.0 ∙ same_in xs ys (s v.0) e, long_still s xs ys vs e k.1)

pub puts_sized : {X : Type 0} (s : Slots) (xs : List (List X)) (vs : List (ℕ × List X)) → AreLong s xs vs
    → map length (puts s xs vs) ≡ map length xs
puts_sized s xs [] k = refl
puts_sized s xs (v ∷ vs) k =
    let one = put_sized xs (s v.0) v.1 k.0 in
    puts_sized s (put_in xs (s v.0) v.1) vs (long_still s xs (put_in xs (s v.0) v.1) vs (sym one) k.1) ∙ one

pub long_both : {X : Type 0} (s : Slots) (xs : List (List X)) (vs ws : List (ℕ × List X)) → AreLong s xs vs
    → AreLong s xs ws → AreLong s xs (vs ++ ws)
long_both s xs [] ws k l = l
long_both s xs (v ∷ vs) ws k l = (k.0, long_both s xs vs ws k.1 l)

-- ---- pages that are as a heap has them, and were scanned

pages_words : (h : HeapState) (i : ℕ) (ps qs : List OwnedPage) → ArePagesOf h i ps → AreSized ps qs
    → AreLong (frame_slot h.store.pages) h.store.frames (flat words_in i qs)
pages_words h i [] [] a k = tt
pages_words h i [] (q ∷ qs) a k = absurd (cc)
pages_words h i (p ∷ ps) [] a k = absurd (cc)
pages_words h i (p ∷ ps) (q ∷ qs) a k = (
  k.0.frame ∙ ap (λ (x : OwnedPage). length x.frame) a.0
      ∙ ap length (lent_is h.store.pages i h.store.frames []),
  pages_words h (i + 1) ps qs a.1 k.1,
)

pages_marks : (h : HeapState) (i : ℕ) (ps qs : List OwnedPage) → ArePagesOf h i ps → AreSized ps qs
    → AreLong row_slot h.mark (flat marks_in i qs)
pages_marks h i [] [] a k = tt
pages_marks h i [] (q ∷ qs) a k = absurd (cc)
pages_marks h i (p ∷ ps) [] a k = absurd (cc)
pages_marks h i (p ∷ ps) (q ∷ qs) a k =
    (k.0.marked ∙ ap (λ (x : OwnedPage). length x.marked) a.0, pages_marks h (i + 1) ps qs a.1 k.1)

pages_greys : (h : HeapState) (i : ℕ) (ps qs : List OwnedPage) → ArePagesOf h i ps → AreSized ps qs
    → AreLong row_slot h.todo (flat greys_in i qs)
pages_greys h i [] [] a k = tt
pages_greys h i [] (q ∷ qs) a k = absurd (cc)
pages_greys h i (p ∷ ps) [] a k = absurd (cc)
pages_greys h i (p ∷ ps) (q ∷ qs) a k =
    (k.0.grey ∙ ap (λ (x : OwnedPage). length x.grey) a.0, pages_greys h (i + 1) ps qs a.1 k.1)

pub parts_long : (h : HeapState) (parts lent left : List Part) → AreLent h parts lent → SizedParts lent left
    → AreLong (frame_slot h.store.pages) h.store.frames (flat_parts words_in left)
    × AreLong row_slot h.mark (flat_parts marks_in left) × AreLong row_slot h.todo (flat_parts greys_in left)
parts_long h [] [] [] a k = (tt, tt, tt)
parts_long h [] [] (q ∷ qs) a k = absurd (cc)
parts_long h [] (l ∷ ls) left a k = absurd (cc)
parts_long h (p ∷ ps) [] left a k = absurd (cc)
parts_long h (p ∷ ps) (l ∷ ls) [] a k = absurd (cc)
parts_long h (p ∷ ps) (l ∷ ls) (q ∷ qs) a k =
    let first : q.first ≡ p.first = k.0 ∙ ap (λ (x : Part). x.first) a.0 in
    let rest = parts_long h ps ls qs a.3 k.2 in (
      long_both (frame_slot h.store.pages) h.store.frames (flat words_in q.first q.pages.items) (flat_parts words_in qs)
          (subst (λ n. AreLong (frame_slot h.store.pages) h.store.frames (flat words_in n q.pages.items)) (sym first)
          (pages_words h p.first l.pages.items q.pages.items a.2 k.1)) rest.0,
      long_both row_slot h.mark (flat marks_in q.first q.pages.items) (flat_parts marks_in qs)
          (subst (λ n. AreLong row_slot h.mark (flat marks_in n q.pages.items)) (sym first)
          (pages_marks h p.first l.pages.items q.pages.items a.2 k.1)) rest.1,
      long_both row_slot h.todo (flat greys_in q.first q.pages.items) (flat_parts greys_in qs)
          (subst (λ n. AreLong row_slot h.todo (flat greys_in n q.pages.items)) (sym first)
          (pages_greys h p.first l.pages.items q.pages.items a.2 k.1)) rest.2,
    )

-- ---- the same indexes

alike_flat : {X : Type 0} (f : OwnedPage → X) (i : ℕ) (ps qs : List OwnedPage) → length ps ≡ length qs
    → AreAlike (flat f i ps) (flat f i qs)
alike_flat f i [] [] e = tt
alike_flat f i [] (q ∷ qs) e = absurd (cc)
alike_flat f i (p ∷ ps) [] e = absurd (cc)
alike_flat f i (p ∷ ps) (q ∷ qs) e = (refl, alike_flat f (i + 1) ps qs (less (length ps) (length qs) e))
  where
    less : (m n : ℕ) → suc m ≡ suc n → m ≡ n
    less m n z = omega (arith, z)

alike_both : {X : Type 0} (vs ws us ts : List (ℕ × X)) → AreAlike vs ws → AreAlike us ts → AreAlike (vs ++ us) (ws ++ ts)
alike_both [] [] us ts a b = b
alike_both [] (w ∷ ws) us ts a b = absurd (cc)
alike_both (v ∷ vs) [] us ts a b = absurd (cc)
alike_both (v ∷ vs) (w ∷ ws) us ts a b = (a.0, alike_both vs ws us ts a.1 b)

-- parts that begin with the same pages, and have as many
abbrev pub AreMatched : List Part → List Part → Type 0
AreMatched [] [] = Unit {0}
AreMatched [] (q ∷ qs) = true ≡ false
AreMatched (p ∷ ps) [] = true ≡ false
AreMatched (p ∷ ps) (q ∷ qs) =
    (p.first ≡ q.first) × (length p.pages.items ≡ length q.pages.items) × AreMatched ps qs

pub matched_alike : {X : Type 0} (f : OwnedPage → X) (ps qs : List Part) → AreMatched ps qs
    → AreAlike (flat_parts f ps) (flat_parts f qs)
matched_alike f [] [] k = tt
matched_alike f [] (q ∷ qs) k = absurd (cc)
matched_alike f (p ∷ ps) [] k = absurd (cc)
matched_alike f (p ∷ ps) (q ∷ qs) k =
    alike_both (flat f p.first p.pages.items) (flat f q.first q.pages.items) (flat_parts f ps) (flat_parts f qs)
    (subst (λ n. AreAlike (flat f p.first p.pages.items) (flat f n q.pages.items)) k.0
    (alike_flat f p.first p.pages.items q.pages.items k.1)) (matched_alike f ps qs k.2)
