-- One visit of a walk.
use Rattle.std.proofs.Common.{◌≡◌, ◌≢◌, ◌<◌, ◌⊎◌, inl, inr, ℕ, ◌+◌, Bool, true, false, cond, List, [], ◌∷◌}
use Rattle.std.proofs.Common.{◌++◌, length, refl, sym, ap, ◌∙◌, arith, get_or-set_other}
use Rattle.std.specs.List.{count_by, slice_set, Contains}
use Rattle.std.proofs.lemmas.List.{get_or-set_same, length-set}
use Rattle.std.proofs.lemmas.List.Elements.{Contains-push, Contains-push_cases, Contains-append_left}
use Rattle.std.proofs.lemmas.List.Sums.{sum_by-set}
use Rattle.std.proofs.lemmas.Bool.{cases_eq}
use Rattle.std.proofs.lemmas.Grind.{common_steps}
use Rattle.verify.specs.declared.spots.Spot.{Spot}
use Rattle.verify.specs.declared.spots.Spot.TheVariants.{Empty, Unseen, Reached}
use Rattle.verify.specs.Walks.{WalkData, IsMet, Keeps, spot_at, is_unseen, with_visit, looks_left}

-- a spot that is reached stays so
spot_kept : (spots : List Spot) (a b : ℕ) → b < length spots → spot_at spots a ≡ Reached
    → spot_at (slice_set spots b Reached) a ≡ Reached
spot_kept spots a b l h = elim (cases_eq a b) [
  | inl e ↦ rw (e, get_or-set_same spots b Reached Empty l)
  | inr n ↦ get_or-set_other spots b a Reached Empty n ∙ h
]

-- a spot that is reached was reached before, or is the one that was visited
spot_cases : (spots : List Spot) (a b : ℕ) → spot_at (slice_set spots b Reached) a ≡ Reached
    → (spot_at spots a ≡ Reached) ⊎ (a ≡ b)
spot_cases spots a b h = elim (cases_eq a b) [
  | inl e ↦ inr e
  | inr n ↦ inl (sym (get_or-set_other spots b a Reached Empty n) ∙ h)
]

-- a spot that isn't empty stays so
spot_filled : (spots : List Spot) (a b : ℕ) → b < length spots → spot_at spots a ≢ Empty
    → spot_at (slice_set spots b Reached) a ≢ Empty
spot_filled spots a b l h = λ e. elim (cases_eq a b) [
  | inl s ↦ apart (sym (get_or-set_same spots b Reached Empty l) ∙ ap (spot_at (slice_set spots b Reached)) (sym s) ∙ e)
  | inr n ↦ h (sym (get_or-set_other spots b a Reached Empty n) ∙ e)
]
  where
    apart : Reached ≡ Empty → ⊥
    apart e = absurd (cc e)

-- a visited address is met
pub visited_met : (w : WalkData) (b : ℕ) → b < length w.spots → IsMet (with_visit w b) b
unfolding with_visit
visited_met w b l = get_or-set_same w.spots b Reached Empty l

-- so is each address that was met before
pub visited_keeps : (w : WalkData) (b : ℕ) → b < length w.spots → Keeps w (with_visit w b)
unfolding with_visit
visited_keeps w b l = λ a h. spot_kept w.spots a b l h

-- no other address is
pub visited_cases : (w : WalkData) (b a : ℕ) → IsMet (with_visit w b) a → IsMet w a ⊎ (a ≡ b)
unfolding with_visit
visited_cases w b a h = spot_cases w.spots a b h

-- a spot that isn't empty before a visit isn't after it
pub visited_filled : (w : WalkData) (b a : ℕ) → b < length w.spots → spot_at w.spots a ≢ Empty
    → spot_at (with_visit w b).spots a ≢ Empty
unfolding with_visit
visited_filled w b a l h = spot_filled w.spots a b l h

-- an address that waits after a visit waited before, or was visited
waits_cases : (t : Bool) (ss : List ℕ) (a b : ℕ) → Contains (cond t (ss ++ b ∷ []) ss) a → Contains ss a ⊎ (a ≡ b)
waits_cases true ss a b h = elim (Contains-push_cases ss b a h) [ inl k ↦ inl k | inr e ↦ inr (sym e) ]
waits_cases false ss a b h = inl h

-- an address that waited still waits
waits_kept : (t : Bool) (ss : List ℕ) (a b : ℕ) → Contains ss a → Contains (cond t (ss ++ b ∷ []) ss) a
waits_kept true ss a b h = Contains-append_left ss (b ∷ []) a h
waits_kept false ss a b h = h

-- so an address that waits after a visit waited before, or was visited
pub visited_waiting : (w : WalkData) (b a : ℕ) → Contains (with_visit w b).waiting a → Contains w.waiting a ⊎ (a ≡ b)
unfolding with_visit
visited_waiting w b a h = waits_cases (is_unseen (spot_at w.spots b)) w.waiting a b h

-- and an address that waited still waits after a visit
pub visited_waits : (w : WalkData) (b a : ℕ) → Contains w.waiting a → Contains (with_visit w b).waiting a
unfolding with_visit
visited_waits w b a h = waits_kept (is_unseen (spot_at w.spots b)) w.waiting a b h

-- an object that is visited waits then, or was met before
pub visited_new : (w : WalkData) (b : ℕ) → spot_at w.spots b ≢ Empty → IsMet w b ⊎ Contains (with_visit w b).waiting b
unfolding with_visit
visited_new w b h = by_spot (spot_at w.spots b) refl
  where
    by_spot : (s : Spot) → spot_at w.spots b ≡ s
        → IsMet w b ⊎ Contains (cond (is_unseen (spot_at w.spots b)) (w.waiting ++ b ∷ []) w.waiting) b
    by_spot Empty e = absurd (h e)
    by_spot Unseen e = inr (rw e (Contains-push w.waiting b))
    by_spot Reached e = inl e

-- the number of spots stays
pub visited_length : (w : WalkData) (b : ℕ) → length (with_visit w b).spots ≡ length w.spots
unfolding with_visit
visited_length w b = length-set w.spots b Reached

-- a visit moves an unseen object to the waiting ones
pub visited_left : (w : WalkData) (b : ℕ) → b < length w.spots → looks_left (with_visit w b) ≡ looks_left w
unfolding with_visit
visited_left w b l = moved (is_unseen (spot_at w.spots b)) refl
  where
    moved : (t : Bool) → is_unseen (spot_at w.spots b) ≡ t
        → count_by is_unseen (slice_set w.spots b Reached)
        + length (cond (is_unseen (spot_at w.spots b)) (w.waiting ++ b ∷ []) w.waiting)
        ≡ count_by is_unseen w.spots + length w.waiting
    moved true e =
        let s = sum_by-set (λ x. cond (is_unseen x) 1 0) w.spots b Reached Empty l in
        rw e (let s1 = rw e at s in grind (arith, common_steps))
    moved false e =
        let s = sum_by-set (λ x. cond (is_unseen x) 1 0) w.spots b Reached Empty l in
        rw e (let s1 = rw e at s in omega arith)
