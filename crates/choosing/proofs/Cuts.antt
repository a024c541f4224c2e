-- The longest prefix of a list of pages for which there is space.
use Rattle.std.proofs.Common.{◌≡◌, ℕ, zero, suc, ◌+◌, ◌^◌, ◌<◌, ◌≤◌, ◌&&◌, Bool, true, false, List, [], ◌∷◌, ◌++◌}
use Rattle.std.proofs.Common.{length, get_or, map, min, take, nat_le, refl, sym, ap, ap₂, ◌∙◌, subst, arith}
use Rattle.std.proofs.Common.{append-nil}
use Rattle.std.specs.List.{flat_map}
use Rattle.std.proofs.lemmas.Bool.{leb-true, le-leb}
use Rattle.std.proofs.lemmas.Grind.{flat_map-append}
use Rattle.model.specs.States.{HeapState}
use Rattle.model.specs.Plans.{plan_of, target_count}
use Rattle.model.specs.Protections.{free_count, unused_count}
use Rattle.relocate.proofs.Planning.{sizes_planned}
use Rattle.choosing.specs.declared.packing.Packing.{Packing}
use Rattle.choosing.specs.Packings.{pack, first_packing}
use Rattle.choosing.specs.Choices.{IsLongest, has_room_for, page_of, sizes_on}
use Rattle.choosing.proofs.Packed.{grown, pack_behind, targets_counted}

-- after the live objects of these pages
abbrev pub behind : HeapState → List ℕ → Packing
behind h ns = pack h.store.words first_packing (flat_map (sizes_on h) ns)

-- its count is that of the targets of their plan
targets_behind : (h : HeapState) (ns : List ℕ) → target_count (plan_of h ns) ≡ (behind h ns).count
targets_behind h ns = ap target_count (sym (sizes_planned h ns))
    ∙ targets_counted h.store.words (flat_map (sizes_on h) ns)

abbrev pub room_in : HeapState → ℕ
room_in h = min (free_count h.store) (unused_count h.store)

has_room : (h : HeapState) (ns : List ℕ) → (behind h ns).count ≤ room_in h → has_room_for h ns ≡ true
has_room h ns few =
    let is = targets_behind h ns in
    ap₂ (λ a b. a && b) (le-leb (target_count (plan_of h ns)) (free_count h.store) (omega (arith, is, few)))
    (le-leb (target_count (plan_of h ns)) (unused_count h.store) (omega (arith, is, few)))

no_room : (h : HeapState) (ns : List ℕ) → room_in h < (behind h ns).count → has_room_for h ns ≡ false
no_room h ns many = by (nat_le t (free_count h.store)) (nat_le t (unused_count h.store)) refl refl
  where
    t : ℕ
    t = target_count (plan_of h ns)

    by : (a b : Bool) → nat_le t (free_count h.store) ≡ a → nat_le t (unused_count h.store) ≡ b → (a && b) ≡ false
    by true true e f = absurd (omega (arith, targets_behind h ns, many, leb-true _ _ e, leb-true _ _ f))
    by true false e f = refl
    by false b e f = refl

-- after more pages there are no fewer targets
behind_more : (h : HeapState) (ns ms : List ℕ) → (behind h ns).count ≤ (behind h (ns ++ ms)).count
behind_more h ns ms =
    let w = h.store.words in
    let s : Packing = behind h ns in
    let first = grown w first_packing (flat_map (sizes_on h) ns) (omega arith) (omega arith) in
    let rest = grown w s (flat_map (sizes_on h) ms) first.last first.there in
    let is : behind h (ns ++ ms) ≡ pack w s (flat_map (sizes_on h) ms) =
    ap (pack w first_packing) (flat_map-append (sizes_on h) ns ms)
    ∙ pack_behind w first_packing (flat_map (sizes_on h) ns) (flat_map (sizes_on h) ms) in
    omega (arith, rest.more, ap (λ (z : Packing). z.count) is)

-- a prefix of a list is a shorter prefix, and more
longer : {X : Type 0} (k j : ℕ) (xs : List X) → k ≤ j → (ys : List X) × (take j xs ≡ take k xs ++ ys)
longer zero j xs less = (take j xs, refl)
longer (suc k) j [] less = ([], take_none j)
  where
    take_none : {X : Type 0} (j : ℕ) → ◌≡◌ {A = List X} (take j []) []
    take_none zero = refl
    take_none (suc j) = refl
longer (suc k) zero (x ∷ xs) less = absurd (omega (arith, less))
longer (suc k) (suc j) (x ∷ xs) less = let rest = longer k j xs (omega (arith, less)) in (
  rest.0,
  ap (λ l. x
      ∷ l) rest.1,
)

-- what is chosen so far: the first i pages, for which there is space
pub record IsBeginning (h : HeapState) (ns : List ℕ) (i : ℕ) (xs : List ℕ) (s : Packing) : Type 0 where
  pub chosen : xs ≡ take i ns
  pub packed : s ≡ behind h (take i ns)
  pub room : s.count ≤ room_in h
  pub offset : s.offset < 2 ^ 17
  pub target : s.target ≤ s.count

one_behind : (h : HeapState) (ns : List ℕ) (i n : ℕ) (s : Packing) → s ≡ behind h (take i ns) → take (i + 1) ns
    ≡ take i ns ++ n ∷ []
    → pack h.store.words s (sizes_on h n) ≡ behind h (take (i + 1) ns)
one_behind h ns i n s so next =
    ap (λ z. pack h.store.words z (sizes_on h n)) so
    ∙ sym (pack_behind h.store.words first_packing (flat_map (sizes_on h) (take i ns)) (sizes_on h n))
    ∙ sym (ap (pack h.store.words first_packing) (ap (flat_map (sizes_on h)) next
    ∙ flat_map-append (sizes_on h) (take i ns) (n ∷ [])
    ∙ ap (λ l. flat_map (sizes_on h) (take i ns) ++ l) (append-nil (sizes_on h n))))

-- the page of the next pair
pub page_next : (ps : List (ℕ × ℕ)) (i : ℕ) (d : ℕ × ℕ) → i < length ps
    → take (i + 1) (map page_of ps) ≡ take i (map page_of ps) ++ (get_or ps i d).1 ∷ []
page_next [] i d near = absurd (omega (arith, near))
page_next (p ∷ ps) zero d near = refl
page_next (p ∷ ps) (suc i) d near =
    let at : suc i + 1 ≡ suc (i + 1) = omega arith in
    ap (λ k. take k (map page_of (p ∷ ps))) at ∙ ap (λ l. p.1 ∷ l) (page_next ps i d (omega (arith, near)))

-- nothing is chosen
pub begins : (h : HeapState) (ns : List ℕ) → IsBeginning h ns 0 [] first_packing
begins h ns = record { chosen = refl; packed = refl; room = omega arith; offset = omega arith; target = omega arith }

-- there is space for one more page
pub goes_on : (h : HeapState) (ns : List ℕ) (i n : ℕ) (xs new : List ℕ) (s t : Packing) → IsBeginning h ns i xs s
    → take (i + 1) ns ≡ take i ns ++ n ∷ [] → t ≡ pack h.store.words s (sizes_on h n) → t.count ≤ room_in h
    → t.offset < 2 ^ 17
    → new ≡ xs ++ n ∷ [] → IsBeginning h ns (i + 1) new t
goes_on h ns i n xs new s t b next is few low more =
    let all : t ≡ behind h (take (i + 1) ns) = is ∙ one_behind h ns i n s b.packed next in
    let g = grown h.store.words first_packing (flat_map (sizes_on h) (take (i + 1) ns)) (omega arith) (omega arith) in
    record {
      chosen = more ∙ ap (λ l. l ++ n ∷ []) b.chosen ∙ sym next;
      packed = all;
      room = few;
      offset = low;
      target = omega (arith, g.there, ap (λ (z : Packing). z.count) all, ap (λ (z : Packing). z.target) all);
    }

-- there is no space for one more page
pub is_cut : (h : HeapState) (ns : List ℕ) (i : ℕ) (n : ℕ) (xs : List ℕ) (s t : Packing) → IsBeginning h ns i xs s
    → take (i + 1) ns ≡ take i ns ++ n ∷ [] → t ≡ pack h.store.words s (sizes_on h n) → room_in h < t.count
    → IsLongest h ns xs
is_cut h ns i n xs s t b next is many = (
  i,
  b.chosen,
  subst (λ l. has_room_for h l ≡ true) (sym b.chosen) (has_room h (take i ns)
      (omega (arith, b.room, ap (λ (z : Packing). z.count) b.packed))),
  λ j later most. let rest = longer (i + 1) j ns (omega (arith, later)) in
      no_room h (take j ns) (omega (
        arith,
        many,
        ap (λ (z : Packing). z.count) (is ∙ one_behind h ns i n s b.packed next),
        behind_more h (take (i + 1) ns) rest.0,
        ap (λ l. (behind h l).count) rest.1,
      )),
)

-- there is space for all
pub is_whole : (h : HeapState) (ns : List ℕ) (i : ℕ) (xs : List ℕ) (s : Packing) → IsBeginning h ns i xs s
    → length ns ≤ i → IsLongest h ns xs
is_whole h ns i xs s b ends = (
  i,
  b.chosen,
  subst (λ l. has_room_for h l ≡ true) (sym b.chosen) (has_room h (take i ns)
      (omega (arith, b.room, ap (λ (z : Packing). z.count) b.packed))),
  λ j later most. absurd (omega (arith, ends, later, most)),
)
