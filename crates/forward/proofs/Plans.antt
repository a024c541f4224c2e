-- Places, one after the other.
use Rattle.std.proofs.Common.{◌≡◌, ℕ, ◌+◌, ◌≤◌, List, [], ◌∷◌, ◌++◌, drop, length}
use Rattle.std.proofs.Common.{refl, sym, ◌∙◌, ap, arith, length-append}
use Rattle.std.proofs.lemmas.List.{drop_all, append-nil}
use Rattle.model.specs.Plans.{places_from, target_count}
use Rattle.forward.specs.Planning.{PlanningState, planned}

-- the last place is in the last target
last_target : (ps : List (ℕ × ℕ)) (t o : ℕ) → target_count (ps ++ (t, o) ∷ []) ≡ t + 1
last_target [] t o = refl
last_target (p ∷ []) t o = refl
last_target (p ∷ q ∷ ps) t o = last_target (q ∷ ps) t o

-- one more object is in the last target
pub counted_more : (t o : ℕ) (ps new : List (ℕ × ℕ)) → t ≤ length ps + 1 → new ≡ ps ++ (t, o) ∷ []
    → (t + 1 ≡ target_count new) × (t ≤ length new)
counted_more t o ps new low put =
    let last = sym (ap target_count put ∙ last_target ps t o) in
    (last, omega (arith, low, ap length put, length-append ps ((t, o) ∷ [])))

-- if the places of the sizes from i on follow, and none is left, these are all places
pub placed_all : (words i : ℕ) (sizes : List ℕ) (p : PlanningState) → length sizes ≤ i
    → places_from words 0 0 sizes ≡ planned words p (drop i sizes) → p.places ≡ places_from words 0 0 sizes
placed_all words i sizes p past so_far =
    sym (so_far ∙ ap (planned words p) (drop_all i sizes past) ∙ append-nil p.places)
