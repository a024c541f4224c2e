-- Every accepted step keeps that the heap represents a reference model.
use Rattle.std.proofs.Common.{◌≡◌, ℕ}
use Rattle.model.specs.declared.steps.Actor.{Actor}
use Rattle.model.specs.declared.steps.Actor.TheVariants.{Thread, Worker}
use Rattle.model.specs.declared.steps.Step.{Step}
use Rattle.model.specs.declared.steps.Step.TheVariants as steps
use Rattle.model.specs.declared.steps.Answer.{Answer}
use Rattle.model.specs.Owning.{IsStore}
use Rattle.model.specs.Holding.{IsHeap}
use Rattle.model.specs.States.{HeapState}
use Rattle.model.specs.Outcome.{outcome, thread_gate, thread_row, worker_gate, worker_row}
use Rattle.model.specs.Plain.{PlainHeap, plain_step}
use Rattle.laws.specs.Promises.{PlannedIsUnreachable}
use Rattle.refinement.specs.Worlds.{world_of}
use Rattle.refinement.specs.PlainHeaps.{births_of}
use Rattle.refinement.specs.Standing.{Holds, StepHolds, FindsLive, Finds, Leaves, kept_at_mark}
use Rattle.refinement.proofs.Accepted.{OnAccepted, accepted, of_accepted, on_bind, on_has}
use Rattle.refinement.proofs.Carrying.{RowHolds}
use Rattle.refinement.proofs.Verdicts.{Passed, passed, WorkerPassed, worker_passed, is_global, is_thread}
use Rattle.refinement.proofs.Registers.{is_null_holds, same_holds}
use Rattle.refinement.proofs.Data.{datum_holds}
use Rattle.refinement.proofs.Buffers.{give_back_holds}
use Rattle.refinement.proofs.Registers.{copy_holds, clear_holds}
use Rattle.refinement.proofs.Data.{set_datum_holds}
use Rattle.refinement.proofs.Births.{new_holds}
use Rattle.refinement.proofs.Buffers.{take_holds}
use Rattle.refinement.proofs.References.{store_holds, store_global_holds}
use Rattle.refinement.proofs.Scans.{pick_holds, scan_field_holds, scan_global_holds}
use Rattle.refinement.proofs.StartMarks.{start_mark_holds}
use Rattle.refinement.proofs.EndMarks.{end_mark_holds, ended_finds}
use Rattle.refinement.proofs.Checkpoints.{cross_holds, cross_for_holds, park_holds, unpark_holds}
use Rattle.refinement.proofs.Loads.{load_holds, load_global_holds}
use Rattle.refinement.proofs.Loads.{heal_holds, finish_holds}
use Rattle.refinement.proofs.Traps.{trap_holds, scrub_holds}
use Rattle.refinement.proofs.Protections.{protect_holds}
use Rattle.refinement.proofs.Moving as moving
use Rattle.refinement.proofs.WholePages.{copy_page_holds}
use Rattle.refinement.proofs.Releases.{release_holds}

-- the outcome of a thread's step
row_holds : (h : HeapState) (p p0 : PlainHeap) (t : ℕ) (step : Step) → IsStore h.store → IsHeap h → Holds h p p0
    → Passed h t step → RowHolds h p p0 (Thread t) step (thread_row h t step)
row_holds h p p0 t (steps.Take n) s d k g = take_holds s d k t n g
row_holds h p p0 t steps.GiveBack s d k g = give_back_holds s d k t g
row_holds h p p0 t (steps.New r number) s d k g = new_holds s d k t r number g
row_holds h p p0 t (steps.Load r o i) s d k g = load_holds s d k t r o i g
row_holds h p p0 t (steps.LoadGlobal r n) s d k g = load_global_holds s d k t r n g
row_holds h p p0 t steps.Trap s d k g = trap_holds s d k t g.thread g.there
row_holds h p p0 t steps.Heal s d k g = heal_holds s d k t g.thread g.there
row_holds h p p0 t steps.Finish s d k g = finish_holds s d k t g.thread g.there
row_holds h p p0 t (steps.Store r i q) s d k g = store_holds s d k t r i q g
row_holds h p p0 t (steps.StoreGlobal n q) s d k g = store_global_holds s d k t n q g
row_holds h p p0 t (steps.Datum r j) s d k g = datum_holds s d k t r j g
row_holds h p p0 t (steps.SetDatum r j v) s d k g = set_datum_holds s d k t r j v g
row_holds h p p0 t (steps.Same l r) s d k g = same_holds s d k t l r g
row_holds h p p0 t (steps.IsNull r) s d k g = is_null_holds s d k t r g
row_holds h p p0 t (steps.CopyReg r q) s d k g = copy_holds s d k t r q g
row_holds h p p0 t (steps.ClearReg r) s d k g = clear_holds s d k t r g
row_holds h p p0 t steps.Cross s d k g = cross_holds s d k t g
row_holds h p p0 t (steps.Scrub r) s d k g = scrub_holds s d k t r g
row_holds h p p0 t steps.Park s d k g = park_holds s d k t g
row_holds h p p0 t steps.Unpark s d k g = unpark_holds s d k t g
row_holds h p p0 t _ s d k g = tt

-- the outcome of a worker's step
worker_holds : (h : HeapState) (p p0 : PlainHeap) (w : ℕ) (step : Step) → IsStore h.store → IsHeap h → Holds h p p0
    → WorkerPassed h w step → RowHolds h p p0 (Worker w) step (worker_row h w step)
worker_holds h p p0 w steps.StartMark s d k g = start_mark_holds s d k w
worker_holds h p p0 w (steps.Pick page offset) s d k g = pick_holds s d k w g.worker page offset
worker_holds h p p0 w steps.ScanField s d k g = scan_field_holds s d k w g.worker
worker_holds h p p0 w (steps.ScanGlobal n) s d k g = scan_global_holds s d k w g.worker n (is_global h n g.indices)
worker_holds h p p0 w steps.EndMark s d k g = end_mark_holds s k w
worker_holds h p p0 w (steps.Protect pages) s d k g = protect_holds s d k w pages
worker_holds h p p0 w (steps.Copy page e) s d k g = moving.copy_holds s k w page e
worker_holds h p p0 w (steps.CopyPage page) s d k g = copy_page_holds h p p0 w page s k
worker_holds h p p0 w (steps.Release page) s d k g = release_holds s k w page
worker_holds h p p0 w (steps.CrossFor t) s d k g = cross_for_holds s k w t (is_thread h t g.indices)
worker_holds h p p0 w _ s d k g = tt

outcome_holds : (h : HeapState) (p p0 : PlainHeap) (actor : Actor) (step : Step) → IsStore h.store → IsHeap h
    → Holds h p p0 → RowHolds h p p0 actor step (outcome h actor step)
unfolding outcome
outcome_holds h p p0 (Thread t) step s d k =
    on_has (thread_gate h t step) _ _ _ (passed h t step) (λ u g. row_holds h p p0 t step s d k g)
outcome_holds h p p0 (Worker w) step s d k =
    on_has (worker_gate h w step) _ _ _ (worker_passed h w step) (λ u g. worker_holds h p p0 w step s d k g)

pub step_holds : (h : HeapState) (p p0 : PlainHeap) (actor : Actor) (step : Step) (g : HeapState) (answer : Answer)
    → IsStore h.store → IsHeap h → Holds h p p0 → outcome h actor step ≡ accepted (g, answer)
    → StepHolds h p p0 actor step g answer
step_holds h p p0 actor step g answer s d k e = of_accepted
    (λ (z : HeapState × Answer). StepHolds h p p0 actor step z.0 z.1) (outcome h actor step) (g, answer)
    (outcome_holds h p p0 actor step s d k) e

-- the promises of a mark that ends
ended_holds : (h : HeapState) (p p0 : PlainHeap) (actor : Actor) → IsStore h.store → Holds h p p0
    → OnAccepted (λ (z : HeapState × Answer). FindsLive z.0 p p0 × PlannedIsUnreachable (world_of h) (births_of p))
    (outcome h actor steps.EndMark)
unfolding outcome
ended_holds h p p0 (Thread t) s k = on_bind (thread_gate h t steps.EndMark) _ _ (λ u e. tt)
ended_holds h p p0 (Worker w) s k = on_bind (worker_gate h w steps.EndMark) _ _ (λ u e. ended_finds s k)

pub marks_find : (h : HeapState) (p p0 : PlainHeap) (actor : Actor) (step : Step) (g : HeapState) (answer : Answer)
    → IsStore h.store → IsHeap h → Holds h p p0 → outcome h actor step ≡ accepted (g, answer)
    → Finds g (plain_step h.config.layouts p actor step) (kept_at_mark p p0 step) step × Leaves h p step
unfolding plain_step
marks_find h p p0 (Thread t) steps.EndMark g answer s d k e = of_accepted
    (λ (z : HeapState × Answer). FindsLive z.0 p p0 × PlannedIsUnreachable (world_of h) (births_of p))
    (outcome h (Thread t) steps.EndMark) (g, answer)
    (ended_holds h p p0 (Thread t) s k) e
marks_find h p p0 (Worker w) steps.EndMark g answer s d k e = of_accepted
    (λ (z : HeapState × Answer). FindsLive z.0 p p0 × PlannedIsUnreachable (world_of h) (births_of p))
    (outcome h (Worker w) steps.EndMark) (g, answer)
    (ended_holds h p p0 (Worker w) s k) e
marks_find h p p0 actor _ g answer s d k e = (tt, tt)
