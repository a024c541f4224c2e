-- A pass over all roots, in order.
use Rattle.std.proofs.Common.{◌≡◌, ◌≢◌, ◌<◌, inl, inr, ℕ, [], length, Option, Some, None, refl, sym, ap, ◌∙◌, arith}
use Rattle.std.specs.List.{Contains}
use Rattle.std.specs.Option.{IfSome}
use Rattle.std.proofs.lemmas.Option.{same_Some, none-some}
use Rattle.verify.specs.declared.spots.Spot.TheVariants.{Empty}
use Rattle.verify.specs.declared.verdict.Root.{Root}
use Rattle.verify.specs.declared.verdict.Root.TheVariants as roots
use Rattle.verify.specs.declared.verdict.Fault.TheVariants as faults
use Rattle.verify.specs.Images.{ImageData, leads, field}
use Rattle.verify.specs.Soundness.{IsReached, root_value}
use Rattle.verify.specs.Faults.{Rank, rank, at, IsBefore}
use Rattle.verify.specs.Walks.{spot_at, WalkData, IsMet, IsWalk, Keeps, with_visit, target}
use Rattle.verify.specs.Searches.{IsPassed, PassedBefore, FoundRoot, TellsReached, GoodRootsBefore}
use Rattle.verify.proofs.Leading.{leads_below, leads_object}
use Rattle.verify.proofs.Visiting.{visited_keeps, visited_met}
use Rattle.verify.proofs.Walking.{walk_met}

-- what was passed stays passed
met_kept : (v w : WalkData) (o : Option ℕ) → Keeps v w → IfSome o (IsMet v) → IfSome o (IsMet w)
met_kept v w None k h = tt
met_kept v w (Some a) k h = k a h

-- so does what was passed before a rank
pub passed_kept : (i : ImageData) (v w : WalkData) (x : Rank) → Keeps v w → PassedBefore i v x → PassedBefore i w x
passed_kept i v w x k h = λ s b value e. let p = h s b value e in (p.0, p.1, met_kept v w p.0 k p.2)

-- the visit of the address to which a root leads
pub record Visits (i : ImageData) (w : WalkData) (r : Root) (c : ℕ) : Type 0 where
  pub filled : spot_at w.spots c ≢ Empty
  pub walk : IsWalk i (with_visit w c)
  pub kept : Keeps w (with_visit w c)
  pub passed : IsPassed i (with_visit w c) r

-- the walk may make this visit, and has passed the root then
pub root_visit : (i : ImageData) (w : WalkData) (r : Root) (v c : ℕ) (o : Option ℕ) → 0 < i.words → IsWalk i w
    → root_value i r ≡ Some v → leads i v ≡ Some o → o ≡ Some c → Visits i w r c
root_visit i w r v c o p h e f g =
    let lead : leads i v ≡ Some (Some c) = f ∙ ap Some g in
    let l : c < length w.spots = rw h.sized (leads_below i v c p lead) in
    let x = leads_object i v c lead in
    record {
      filled = h.objects c x.0 x.1;
      walk = walk_met i c x.0 w h (IsReached.FromRoot c v r e lead) x.1 l;
      kept = visited_keeps w c l;
      passed = λ value y. (Some c, ap (leads i) (same_Some value v (sym y ∙ e)) ∙ lead, visited_met w c l);
    }

-- a field that leads to an address does so by its value
target_from : (i : ImageData) (a k v c : ℕ) → field i a k ≡ Some v → leads i v ≡ Some (Some c) → target i a k ≡ Some c
unfolding target
target_from i a k v c h e = rw (h, e) refl

-- a walk from all roots with nothing waiting has come to all that is reached
pub all_met : (i : ImageData) (w : WalkData) → IsWalk i w → w.waiting ≡ [] → PassedBefore i w (at 4 0 0)
    → (a : ℕ) → IsReached i a → IsMet w a
all_met i w h n p _ (IsReached.FromRoot a v r e f) =
    let q = p r (low r) v e in met_found q.0 a (same_Some q.0 (Some a) (sym q.1 ∙ f)) q.2
  where
    low : (r : Root) → IsBefore (rank (faults.Root r)) (at 4 0 0)
    low (roots.Register t q) = inl (omega arith)
    low (roots.Pending t) = inl (omega arith)
    low (roots.Global g) = inl (omega arith)

    met_found : (o : Option ℕ) (a : ℕ) → o ≡ Some a → IfSome o (IsMet w) → IsMet w a
    met_found None a e m = absurd (none-some a e)
    met_found (Some b) a e m = ap (spot_at w.spots) (sym (same_Some b a e)) ∙ m
all_met i w h n p _ (IsReached.FromField c a k v r e f) =
    elim (h.closed a k c (all_met i w h n p a r) (target_from i a k v c e f)) [
      | inl x ↦ absurd (nowhere a (rw n at x))
      | inr x ↦ x
    ]
  where
    nowhere : (a : ℕ) → Contains [] a → ⊥
    nowhere a x = omega (arith, x.1)

-- so it has found exactly what is reached
pub walk_tells : (i : ImageData) (w : WalkData) → IsWalk i w → w.waiting ≡ [] → PassedBefore i w (at 4 0 0)
    → TellsReached i w.spots
walk_tells i w h n p = record { sized = h.sized; reached = h.reached; all = all_met i w h n p; objects = h.objects }

-- roots that were passed are good
pub passed_good : (i : ImageData) (w : WalkData) (x : Rank) → PassedBefore i w x → GoodRootsBefore i x
passed_good i w x p = λ r v b e. let q = p r b v e in (q.0, q.1)

-- a pass that found no fault has passed all
pub found_all : (i : ImageData) (w : WalkData) (x : Rank) (o : Option Root) → FoundRoot i w x o → o ≡ None
    → PassedBefore i w x
found_all i w x None h e = h
found_all i w x (Some r) h e = absurd (none-some r (sym e))
