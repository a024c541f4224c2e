-- Bitmaps of pages are swapped with those of targets, one after another.
use Rattle.std.proofs.Common.{◌≡◌, ℕ, ◌+◌, ◌-◌, ◌≤◌, ◌<◌, Bool, List, [], ◌∷◌, ◌++◌, length, take, drop, get_or, set}
use Rattle.std.proofs.Common.{refl, sym, ◌∙◌, ap, arith, subst}
use Rattle.std.proofs.lemmas.List.{drop_more, drop_all, take_all, take_more_set, drop-set-lt, append_assoc, append-nil}
use Rattle.page.specs.declared.targets.Target.{Target}
use Rattle.page_rows.specs.Starting.{SwapsStarts}

-- if the rest is swapped, all is
abbrev pub StartsRest : List (List Bool) → List Target → ℕ → List (List Bool) → List Target → Type 0
StartsRest starts targets i now at =
    (after : List (List Bool)) (rest : List Target) → SwapsStarts now (drop i at) after rest
    → SwapsStarts starts targets after (take i at ++ rest)

pub starts_next : (starts : List (List Bool)) (targets : List Target) (i : ℕ) (now then : List (List Bool))
    (at : List Target) (d q : Target) → StartsRest starts targets i now at → i < length at
    → then ≡ set now ((get_or at i d).page - 1) (get_or at i d).starts
    → q ≡ record (get_or at i d) { starts = get_or now ((get_or at i d).page - 1) (get_or at i d).starts }
    → StartsRest starts targets (i + 1) then (set at i q)
starts_next starts targets i now then at d q so_far within put lent after rest s =
    let t : Target = get_or at i d in
    let front : take (i + 1) (set at i q) ≡ take i at ++ q ∷ [] = take_more_set at i q within in
    let back : drop (i + 1) (set at i q) ≡ drop (i + 1) at = drop-set-lt (i + 1) at i q (omega arith) in
    let here : drop i at ≡ t ∷ drop (i + 1) at = drop_more at i d within in
    subst (SwapsStarts starts targets after)
    (sym (ap (λ xs. xs ++ rest) front ∙ append_assoc (take i at) (q ∷ []) rest))
    (so_far after (q ∷ rest)
    (subst (λ xs. SwapsStarts now xs after (q ∷ rest)) (sym here) (
      lent,
      subst (λ fs. SwapsStarts fs (drop (i + 1) at) after rest) put
          (subst (λ xs. SwapsStarts then xs after rest) back s),
    )))

pub starts_last : (starts : List (List Bool)) (targets : List Target) (i : ℕ) (now : List (List Bool))
    (at : List Target) → StartsRest starts targets i now at → length at ≤ i → SwapsStarts starts targets now at
starts_last starts targets i now at all past =
    subst (SwapsStarts starts targets now) (append-nil (take i at) ∙ take_all i at past)
    (all now [] (subst (λ xs. SwapsStarts now xs now []) (sym (drop_all i at past)) refl))
