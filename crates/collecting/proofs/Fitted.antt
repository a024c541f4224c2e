-- Chosen pages, as many as there is space for.
use Rattle.std.proofs.Common.{◌≡◌, ◌∙◌, ℕ, zero, suc, ◌+◌, ◌*◌, ◌^◌, ◌<◌, ◌≤◌, Bool, true, false, not, cond, List, []}
use Rattle.std.proofs.Common.{◌∷◌, ◌++◌, length, map, take, get_or, nat_le, nat_lt, nat_eq, Option, Some, None}
use Rattle.std.proofs.Common.{refl, sym}
use Rattle.std.proofs.Common.{subst, ap, inl, inr, arith}
use Rattle.std.specs.Prelude.{◌&&◌, ◌||◌, IsPermutation}
use Rattle.std.proofs.lemmas.Bool.{true≢false}
use Rattle.std.proofs.lemmas.Bool.Decides.{nat_tests}
use Rattle.std.proofs.lemmas.List.{length-take, take-take}
use Rattle.std.proofs.lemmas.Option.{same_Some}
use Rattle.model.specs.Holding.{IsHeap}
use Rattle.model.specs.Owning.{IsStore}
use Rattle.model.specs.Plans.{live_offsets}
use Rattle.model.specs.Protections.{free_count, no_page_in}
use Rattle.model.specs.States.{HeapState}
use Rattle.choosing.specs.declared.packing.Packing.{Packing}
use Rattle.choosing.specs.Choices.{IsRising, has_room_for, page_of, size_on, sizes_on}
use Rattle.choosing.specs.Packings.{has_page_for, pack, pack_if}
use Rattle.choosing.proofs.Cuts.{IsBeginning, behind, goes_on, is_cut, is_whole, room_in}
use Rattle.choosing.proofs.Low.{object_low, packed_low}
use Rattle.collecting.specs.Stages.{IsChosen, IsFitting, dead_count, emptied_of, first_of, found_words}

-- ---- pages that exist

is_packed : (h : HeapState) (n : ℕ) (s t : Packing) (o : Option Packing) → o ≡ pack_if h n s → o ≡ Some t
    → t ≡ pack h.store.words s (sizes_on h n)
is_packed h n s t o told is = by_test (has_page_for h n s) (sym told ∙ is)
  where
    by_test : (b : Bool) → ◌≡◌ {A = Option Packing} (cond b (Some (pack h.store.words s (sizes_on h n))) None) (Some t)
        → t ≡ pack h.store.words s (sizes_on h n)
    by_test true e = sym (same_Some _ _ e)
    by_test false e = absurd (cc)

le_is : (m n : ℕ) → m ≤ n → nat_le m n ≡ true
le_is m n e = grind (arith, nat_tests)

lt_is : (m n : ℕ) → m < n → nat_lt m n ≡ true
lt_is m n e = grind (arith, nat_tests)

past_is : (m n : ℕ) → nat_le m n ≡ false → nat_lt n m ≡ true
past_is m n e = grind (arith, nat_tests)

none_there : (h : HeapState) (n : ℕ) (s : Packing) (o : Option Packing) → o ≡ pack_if h n s → o ≡ None
    → s.target ≤ 2 ^ 32 → s.offset < 2 ^ 17 → no_page_in h.store n ≡ true
none_there h n s o told is few low = by_tests (nat_eq n 0) (nat_le n h.store.count) refl
    (nat_le s.target (2 ^ 32)) (le_is s.target (2 ^ 32) few) (nat_lt s.offset (2 ^ 17)) (lt_is s.offset (2 ^ 17) low)
    (sym told ∙ is)
  where
    by_tests : (z a : Bool) → nat_le n h.store.count ≡ a → (b : Bool) → b ≡ true → (c : Bool) → c ≡ true
        → ◌≡◌ {A = Option Packing} (cond (not z && a && b && c) (Some (pack h.store.words s (sizes_on h n))) None) None
        → (z || nat_lt h.store.count n) ≡ true
    by_tests true a e b f c g k = refl
    by_tests false false e b f c g k = past_is n h.store.count e
    by_tests false true e true f true g k = absurd (cc)
    by_tests false true e false f c g k = absurd (true≢false (sym f))
    by_tests false true e true f false g k = absurd (true≢false (sym g))

-- ---- the loop

room_low : (h : HeapState) → IsStore h.store → room_in h ≤ 2 ^ 32
unfolding free_count
room_low h s =
    let sum = s.balanced.frames in
    let few = s.sized.frame_count in
    omega (arith, sum, few)

pub fits_on : (h : HeapState) (ns : List ℕ) (i n : ℕ) (xs new : List ℕ) (s t : Packing) (o : Option Packing)
    → IsHeap h → IsBeginning h ns i xs s → take (i + 1) ns ≡ take i ns ++ n ∷ [] → o ≡ pack_if h n s → o ≡ Some t
    → t.count ≤ room_in h → new ≡ xs ++ n ∷ [] → IsBeginning h ns (i + 1) new t
fits_on h ns i n xs new s t o d b next told is few more =
    let same = is_packed h n s t o told is in
    let high = d.config.words_high in
    let words : h.store.words ≡ h.config.words = d.sizes.words in
    goes_on h ns i n xs new s t b next same few
    (subst (λ (p : Packing). p.offset < 2 ^ 17) (sym same)
    (packed_low h.store.words (size_on h n) (λ x. object_low h (n * h.store.words + x) d.config)
    (omega (arith, high, words)) (live_offsets h n) s b.offset)) more

pub fits_cut : (h : HeapState) (ns : List ℕ) (i n : ℕ) (xs : List ℕ) (s t : Packing) (o : Option Packing)
    → IsBeginning h ns i xs s → take (i + 1) ns ≡ take i ns ++ n ∷ [] → o ≡ pack_if h n s → o ≡ Some t
    → room_in h < t.count → IsFitting h ns xs
fits_cut h ns i n xs s t o b next told is many = inl (is_cut h ns i n xs s t b next (is_packed h n s t o told is) many)

pub fits_all : (h : HeapState) (ns : List ℕ) (i : ℕ) (xs : List ℕ) (s : Packing) → IsBeginning h ns i xs s
    → length ns ≤ i → IsFitting h ns xs
fits_all h ns i xs s b past = inl (is_whole h ns i xs s b past)

page_at_index : (ps : List (ℕ × ℕ)) (i : ℕ) (d : ℕ × ℕ) → i < length ps
    → (get_or ps i d).1 ≡ get_or (map page_of ps) i 0
page_at_index [] i d l = absurd (omega (arith, l))
page_at_index (p ∷ ps) zero d l = refl
page_at_index (p ∷ ps) (suc i) d l = page_at_index ps i d (omega (arith, l))

-- the heap doesn't have the next page
pub fits_none : (h : HeapState) (ps : List (ℕ × ℕ)) (i : ℕ) (d : ℕ × ℕ) (xs : List ℕ) (s : Packing)
    (o : Option Packing) → IsStore h.store → i < length ps → IsBeginning h (map page_of ps) i xs s
    → o ≡ pack_if h (get_or ps i d).1 s → o ≡ None → IsFitting h (map page_of ps) xs
fits_none h ps i d xs s o store l b told is =
    inr (i, b.chosen, room, ap (no_page_in h.store) (sym (page_at_index ps i d l)) ∙ there)
  where
    ns : List ℕ
    ns = map page_of ps

    twice : take i (take i (map page_of ps)) ≡ take i (map page_of ps)
    twice = take-take i i (map page_of ps) (omega arith)

    begun : IsBeginning h (take i (map page_of ps)) i xs s
    begun = record {
      chosen = b.chosen ∙ sym twice;
      packed = b.packed ∙ ap (behind h) (sym twice);
      room = b.room;
      offset = b.offset;
      target = b.target;
    }

    room : has_room_for h xs ≡ true
    room = (is_whole h (take i (map page_of ps)) i xs s begun
        (omega (arith, length-take i (map page_of ps)))).2

    there : no_page_in h.store (get_or ps i d).1 ≡ true
    there =
        let few = b.target in
        let some = b.room in
        let low = room_low h store in
        none_there h (get_or ps i d).1 s o told is (omega (arith, few, some, low)) b.offset

-- ---- the choice

pub is_chosen : (most : ℕ) (h : HeapState) (found ps : List (ℕ × ℕ)) (ns xs : List ℕ) (copied : ℕ)
    → IsPermutation found ps → IsRising ps → IsFitting h (map page_of (first_of most ps)) ns
    → xs ≡ take (emptied_of (dead_count ps) (length ns)) ns → copied ≡ found_words (take (length xs) ps)
    → IsChosen most h found xs copied
is_chosen most h found ps ns xs copied same rising fits is moved = (ps, ns, same, rising, fits, is, moved)
