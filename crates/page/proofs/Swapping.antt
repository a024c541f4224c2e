-- Words of pages are swapped with those of owned pages, one page after the other.
use Rattle.std.proofs.Common.{◌≡◌, ℕ, zero, suc, ◌+◌, ◌≤◌, ◌<◌, List, [], ◌∷◌, ◌++◌, length, take, drop, get_or, set, refl, sym, ◌∙◌}
use Rattle.std.proofs.Common.{ap, arith, subst}
use Rattle.std.proofs.lemmas.Grind.{drop_more_same}
use Rattle.std.proofs.lemmas.List.{drop_more, drop_all, take_all, take_more_set, drop-set-lt}
use Rattle.model.specs.declared.records.Page.{Page}
use Rattle.page.specs.declared.owned.OwnedPage.{OwnedPage}
use Rattle.page.specs.declared.owned.Part.{Part}
use Rattle.model.specs.Stores.{changed_in, frame_in}
use Rattle.page.specs.declared.targets.Target.{Target}
use Rattle.page.specs.Filling.{SwapsTargets, page_in}
use Rattle.page.specs.Owned.{lent_frame, put_frame, words_or, AreShort, Swapped, SwappedParts}

together : {X : Type 0} (xs : List X) (x : X) (ys : List X) → (xs ++ x ∷ []) ++ ys ≡ xs ++ x ∷ ys
together [] x ys = refl
together (z ∷ xs) x ys = ap (λ us. z ∷ us) (together xs x ys)

append_none : {X : Type 0} (xs : List X) → xs ++ [] ≡ xs
append_none [] = refl
append_none (x ∷ xs) = ap (λ us. x ∷ us) (append_none xs)

-- ---- pages

-- if the rest is swapped, all is
abbrev pub SwapsRest : List Page → ℕ → List (List ℕ) → List OwnedPage → ℕ → List (List ℕ) → List OwnedPage → Type 0
SwapsRest records first frames owned i now at =
    (after : List (List ℕ)) (rest : List OwnedPage) → Swapped records (first + i) now (drop i at) after rest
    → Swapped records first frames owned after (take i at ++ rest)

pub swaps_first : (records : List Page) (first : ℕ) (frames : List (List ℕ)) (owned : List OwnedPage)
    → SwapsRest records first frames owned 0 frames owned
swaps_first records first frames owned after rest s =
    let none : first + 0 ≡ first = omega arith in
    subst (λ n. Swapped records n frames owned after rest) none s

pub swaps_next : (records : List Page) (first : ℕ) (frames : List (List ℕ)) (owned : List OwnedPage) (i : ℕ)
    (now then : List (List ℕ)) (at : List OwnedPage) (d q : OwnedPage)
    → SwapsRest records first frames owned i now at → i < length at
    → then ≡ put_frame records (first + i) now (get_or at i d).frame
    → q ≡ record (get_or at i d) { frame = lent_frame records (first + i) now (get_or at i d).frame }
    → SwapsRest records first frames owned (i + 1) then (set at i q)
swaps_next records first frames owned i now then at d q so_far within put lent after rest s =
    let p : OwnedPage = get_or at i d in
    let front : take (i + 1) (set at i q) ≡ take i at ++ q ∷ [] = take_more_set at i q within in
    let back : drop (i + 1) (set at i q) ≡ drop (i + 1) at = drop-set-lt (i + 1) at i q (omega arith) in
    let here : drop i at ≡ p ∷ drop (i + 1) at = drop_more at i d within in
    let place : first + (i + 1) ≡ first + i + 1 = omega arith in
    let moved : Swapped records (first + i + 1) (put_frame records (first + i) now p.frame) (drop (i + 1) at) after rest =
    subst (λ n. Swapped records n (put_frame records (first + i) now p.frame) (drop (i + 1) at) after rest) place
    (subst (λ fs. Swapped records (first + (i + 1)) fs (drop (i + 1) at) after rest) put
    (subst (λ xs. Swapped records (first + (i + 1)) then xs after rest) back s)) in
    subst (Swapped records first frames owned after)
    (sym (ap (λ xs. xs ++ rest) front ∙ together (take i at) q rest))
    (so_far after (q ∷ rest)
    (subst (λ xs. Swapped records (first + i) now xs after (q ∷ rest)) (sym here) (lent, moved)))

pub swaps_last : (records : List Page) (first : ℕ) (frames : List (List ℕ)) (owned : List OwnedPage) (i : ℕ)
    (now : List (List ℕ)) (at : List OwnedPage) → SwapsRest records first frames owned i now at → length at ≤ i
    → Swapped records first frames owned now at
swaps_last records first frames owned i now at all past =
    subst (Swapped records first frames owned now) (append_none (take i at) ∙ take_all i at past)
    (all now [] (subst (λ xs. Swapped records (first + i) now xs now []) (sym (drop_all i at past)) refl))

-- ---- parts

-- if the rest of the parts is swapped, all are
abbrev pub PartsRest : List Page → List (List ℕ) → List Part → ℕ → List (List ℕ) → List Part → Type 0
PartsRest records frames parts i now at =
    (after : List (List ℕ)) (rest : List Part) → SwappedParts records now (drop i at) after rest
    → SwappedParts records frames parts after (take i at ++ rest)

pub parts_next : (records : List Page) (frames : List (List ℕ)) (parts : List Part) (i : ℕ) (now then : List (List ℕ))
    (at : List Part) (d q : Part) → PartsRest records frames parts i now at → i < length at
    → Swapped records (get_or at i d).first now (get_or at i d).pages.items then q.pages.items
    → q ≡ record (get_or at i d) { pages = q.pages } → PartsRest records frames parts (i + 1) then (set at i q)
parts_next records frames parts i now then at d q so_far within swapped same after rest s =
    let p : Part = get_or at i d in
    let front : take (i + 1) (set at i q) ≡ take i at ++ q ∷ [] = take_more_set at i q within in
    let back : drop (i + 1) (set at i q) ≡ drop (i + 1) at = drop-set-lt (i + 1) at i q (omega arith) in
    let here : drop i at ≡ p ∷ drop (i + 1) at = drop_more at i d within in
    subst (SwappedParts records frames parts after)
    (sym (ap (λ xs. xs ++ rest) front ∙ together (take i at) q rest))
    (so_far after (q ∷ rest)
    (subst (λ xs. SwappedParts records now xs after (q ∷ rest)) (sym here)
    (then, swapped, same, subst (λ xs. SwappedParts records then xs after rest) back s)))

pub parts_last : (records : List Page) (frames : List (List ℕ)) (parts : List Part) (i : ℕ) (now : List (List ℕ))
    (at : List Part) → PartsRest records frames parts i now at → length at ≤ i
    → SwappedParts records frames parts now at
parts_last records frames parts i now at all past =
    subst (SwappedParts records frames parts now) (append_none (take i at) ∙ take_all i at past)
    (all now [] (subst (λ xs. SwappedParts records now xs now []) (sym (drop_all i at past)) refl))

-- the indexes of a part are numbers
pub short_part : (parts at : List Part) (i : ℕ) (d : Part) → AreShort parts → drop i at ≡ drop i parts → i < length at
    → (get_or at i d).first + length (get_or at i d).pages.items < 18446744073709551616
short_part parts at i d all same within =
    (subst AreShort (sym same ∙ drop_more at i d within) (rest_short i parts all)).0
  where
    rest_short : (n : ℕ) (ps : List Part) → AreShort ps → AreShort (drop n ps)
    rest_short zero ps k = k
    rest_short (suc n) [] k = tt
    rest_short (suc n) (q ∷ ps) k = rest_short n ps k.1

-- the parts that are left are as before
pub same_rest : (parts at : List Part) (i : ℕ) (q : Part) → drop i at ≡ drop i parts
    → drop (i + 1) (set at i q) ≡ drop (i + 1) parts
same_rest parts at i q e = drop-set-lt (i + 1) at i q (omega arith) ∙ drop_more_same at parts i e

-- ---- targets

-- if the rest of the targets is swapped, all are
abbrev pub TargetsRest : List Page → List (List ℕ) → List Target → ℕ → List (List ℕ) → List Target → Type 0
TargetsRest records frames targets i now at =
    (after : List (List ℕ)) (rest : List Target) → SwapsTargets records now (drop i at) after rest
    → SwapsTargets records frames targets after (take i at ++ rest)

pub targets_next : (records : List Page) (frames : List (List ℕ)) (targets : List Target) (i : ℕ)
    (now then : List (List ℕ)) (at : List Target) (d q : Target) → TargetsRest records frames targets i now at
    → i < length at
    → then ≡ changed_in now (frame_in (page_in records (get_or at i d).page)) (λ old. (get_or at i d).frame)
    → q ≡ record (get_or at i d) {
      frame = words_or now (frame_in (page_in records (get_or at i d).page)) (get_or at i d).frame;
    } → TargetsRest records frames targets (i + 1) then (set at i q)
targets_next records frames targets i now then at d q so_far within put lent after rest s =
    let t : Target = get_or at i d in
    let front : take (i + 1) (set at i q) ≡ take i at ++ q ∷ [] = take_more_set at i q within in
    let back : drop (i + 1) (set at i q) ≡ drop (i + 1) at = drop-set-lt (i + 1) at i q (omega arith) in
    let here : drop i at ≡ t ∷ drop (i + 1) at = drop_more at i d within in
    subst (SwapsTargets records frames targets after)
    (sym (ap (λ xs. xs ++ rest) front ∙ together (take i at) q rest))
    (so_far after (q ∷ rest)
    (subst (λ xs. SwapsTargets records now xs after (q ∷ rest)) (sym here) (
      lent,
      subst (λ fs. SwapsTargets records fs (drop (i + 1) at) after rest) put
          (subst (λ xs. SwapsTargets records then xs after rest) back s),
    )))

pub targets_last : (records : List Page) (frames : List (List ℕ)) (targets : List Target) (i : ℕ)
    (now : List (List ℕ)) (at : List Target) → TargetsRest records frames targets i now at → length at ≤ i
    → SwapsTargets records frames targets now at
targets_last records frames targets i now at all past =
    subst (SwapsTargets records frames targets now) (append_none (take i at) ∙ take_all i at past)
    (all now [] (subst (λ xs. SwapsTargets records now xs now []) (sym (drop_all i at past)) refl))
