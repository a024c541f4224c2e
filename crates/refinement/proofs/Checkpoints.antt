-- Threads that cross checkpoints, that are parked, and that run again.
use Rattle.std.proofs.Common.{◌≡◌, ℕ, true, false, not, ◌<◌, length, refl}
use Rattle.std.specs.List.{slice_get}
use Rattle.std.proofs.lemmas.Bool.{not-false}
use Rattle.model.specs.declared.steps.Actor.TheVariants.{Thread, Worker}
use Rattle.model.specs.declared.steps.Step.TheVariants as steps
use Rattle.model.specs.Owning.{IsStore}
use Rattle.model.specs.Holding.{IsHeap}
use Rattle.model.specs.States.{HeapState}
use Rattle.model.specs.Threads.{is_parked_in, has_crossed}
use Rattle.model.specs.Phases.{is_crossing}
use Rattle.model.specs.Checkpoints.{may_cross, cross_outcome, cross_for_outcome, park_outcome, unpark_outcome}
use Rattle.model.specs.Plain.{PlainHeap, plain_step, plain_answer}
use Rattle.model.proofs.Lists.{get_within}
use Rattle.laws.specs.Transitions.{Park}
use Rattle.laws.proofs.Basics.{parked_none}
use Rattle.refinement.specs.Worlds.{world_of}
use Rattle.refinement.specs.PlainHeaps.{births_of}
use Rattle.refinement.specs.Standing.{Holds}
use Rattle.refinement.proofs.Accepted.{OnAccepted, on_has, on_test, on_truth}
use Rattle.refinement.proofs.Carrying.{RowHolds, row_by, stays}
use Rattle.refinement.proofs.Crossings.{thread_crosses}
use Rattle.refinement.proofs.Threads.{parked_carries}
use Rattle.refinement.proofs.Verdicts.{Passed, closed_barrier}

-- a checkpoint is open if a thread may cross one
pub is_open : (h : HeapState) (t : ℕ) → OnAccepted (λ (u : Unit {0}). is_crossing h.phase ≡ true) (may_cross h t)
unfolding may_cross
is_open h t = on_test (not (is_crossing h.phase)) _ _ _ (λ e. on_test (has_crossed (slice_get h.threads t)) _ _ _
    (λ b. not-false (is_crossing h.phase) e))

module _ {h : HeapState} {p p0 : PlainHeap} (s : IsStore h.store) (d : IsHeap h) (k : Holds h p p0) (t : ℕ) where
  -- a thread crosses
  pub cross_holds : Passed h t steps.Cross → RowHolds h p p0 (Thread t) steps.Cross (cross_outcome h t)
  unfolding cross_outcome plain_step plain_answer
  cross_holds g = on_has (may_cross h t) _ _ _ (is_open h t) (λ u crossing.
      let (holds, config) = thread_crosses s k t g.thread g.there (closed_barrier g refl) crossing in
      record { config = config; holds = holds; answers = tt })

  -- a thread is parked
  pub park_holds : Passed h t steps.Park → RowHolds h p p0 (Thread t) steps.Park (park_outcome h t)
  unfolding park_outcome plain_step plain_answer
  park_holds g = row_by k (parked_carries h t g.thread g.there true) (stays h p)
      (Park t true (closed_barrier g refl)) tt

  -- a thread runs again
  pub unpark_holds : Passed h t steps.Unpark → RowHolds h p p0 (Thread t) steps.Unpark (unpark_outcome h t)
  unfolding unpark_outcome plain_step plain_answer
  unpark_holds g = on_truth (is_parked_in (slice_get h.threads t)) _ _ _ (λ e.
      row_by k (parked_carries h t g.thread g.there false) (stays h p)
      (Park t false (closed_barrier g refl)) tt)

-- a worker crosses for a parked thread
pub cross_for_holds : {h : HeapState} {p p0 : PlainHeap} → IsStore h.store → Holds h p p0 → (w t : ℕ)
    → t < length h.threads → RowHolds h p p0 (Worker w) (steps.CrossFor t) (cross_for_outcome h t)
unfolding cross_for_outcome cross_outcome plain_step plain_answer
cross_for_holds {h = h} {p = p} {p0 = p0} s k w t low =
    on_test (not (is_parked_in (slice_get h.threads t))) _ _ _ (λ e.
    on_has (may_cross h t) _ _ _ (is_open h t) (λ u crossing.
    let (x, at) = get_within h.threads t low in
    let closed = parked_none (world_of h) (births_of p) (births_of p0) k.invariant t
    (not-false (is_parked_in (slice_get h.threads t)) e) in
    let (holds, config) = thread_crosses s k t x at closed crossing in
    record { config = config; holds = holds; answers = tt }))
