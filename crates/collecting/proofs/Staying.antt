-- Scans leave the phase.
use Rattle.std.proofs.Common.{◌≡◌, ◌∙◌, ◌+◌, ◌*◌, ℕ, not, List, [], ◌∷◌, Option, Some, None, nat_lt, refl, ap}
use Rattle.std.specs.Prelude.{is_some, ◌&&◌, ◌||◌}
use Rattle.std.specs.List.{slice_get}
use Rattle.model.specs.declared.records.Scan.{Scan}
use Rattle.model.specs.declared.steps.Actor.{Actor}
use Rattle.model.specs.declared.steps.Actor.TheVariants.{Thread, Worker}
use Rattle.model.specs.declared.steps.Step.{Step}
use Rattle.model.specs.declared.steps.Step.TheVariants as steps
use Rattle.model.specs.declared.steps.Answer.{Answer}
use Rattle.model.specs.Bits.{bit_on}
use Rattle.model.specs.Marks.{with_mark}
use Rattle.model.specs.Outcome.{outcome, worker_gate}
use Rattle.model.specs.References.{field_at, global_of}
use Rattle.model.specs.Scans.{is_taken, is_todo_in, mark_global, mark_place, may_scan, pick_outcome, scan_field_outcome}
use Rattle.model.specs.Scans.{scan_global_outcome, scan_next, scan_of, with_marked_global, with_marked_place, with_scan}
use Rattle.model.specs.Scans.{with_scan_end}
use Rattle.model.specs.States.{HeapState}
use Rattle.refinement.proofs.Accepted.{of_accepted, on_bind, on_some, on_test, on_truth}
use Rattle.refinement.proofs.MovingPhases.{Stays, copied_for_stays}
use Rattle.entries.specs.declared.entry.Entry.{Entry}
use Rattle.managed.specs.Goings.{EachIs, Goes, IsScan}
use Rattle.managed.specs.Runs.{Leads}

pick_stays : (h : HeapState) (w page offset : ℕ) → Stays h (pick_outcome h w page offset)
unfolding pick_outcome with_scan
pick_stays h w page offset = on_bind (may_scan h) _ _ (λ u e.
    on_test (not (nat_lt offset h.store.words && bit_on h.todo page offset)) _ _ _ (λ f.
    on_test (is_some (scan_of h w) || is_taken h (page * h.store.words + offset)) _ _ _ (λ g. refl)))

field_stays : (h : HeapState) (w : ℕ) → Stays h (scan_field_outcome h w)
unfolding scan_field_outcome with_scan_end mark_place with_marked_place with_mark with_scan
field_stays h w = on_bind (may_scan h) _ _ (λ u e. on_some (scan_of h w) _ _ _ (λ c f.
    by_place c (field_at h c.object c.next)))
  where
    by_place : (c : Scan) (o : Option ℕ) → Stays h (scan_next h w c o)
    by_place c None = refl
    by_place c (Some n) = copied_for_stays h _

global_stays : (h : HeapState) (g : ℕ) → Stays h (scan_global_outcome h g)
unfolding scan_global_outcome mark_global with_marked_global with_mark
global_stays h g = on_bind (may_scan h) _ _ (λ u e. on_truth (is_todo_in (slice_get h.globals g)) _ _ _ (λ f.
    copied_for_stays h (global_of h g)))

scan_stays : (w : ℕ) (h : HeapState) (actor : Actor) (step : Step) → IsScan w actor step
    → Stays h (outcome h actor step)
unfolding outcome
scan_stays w h (Thread t) step is = absurd is
scan_stays w h (Worker v) (steps.Pick page offset) is =
    on_bind (worker_gate h v (steps.Pick page offset)) _ _ (λ u f. pick_stays h v page offset)
scan_stays w h (Worker v) steps.ScanField is =
    on_bind (worker_gate h v steps.ScanField) _ _ (λ u f. field_stays h v)
scan_stays w h (Worker v) (steps.ScanGlobal g) is =
    on_bind (worker_gate h v (steps.ScanGlobal g)) _ _ (λ u f. global_stays h g)
scan_stays w h (Worker v) _ is = absurd is.1

entries_phase : (w : ℕ) (h g : HeapState) (es : List Entry) → EachIs (IsScan w) es → Leads h es g
    → g.phase ≡ h.phase
entries_phase w h g [] each to = ap (λ (x : HeapState). x.phase) to
entries_phase w h g (e ∷ es) each to = entries_phase w to.0 g es each.1 to.2
    ∙ of_accepted (λ (z : HeapState × Answer). z.0.phase ≡ h.phase) (outcome h e.actor e.step) (to.0, e.answer)
    (scan_stays w h e.actor e.step each.0) to.1

pub scans_phase : (w : ℕ) (h g : HeapState) → Goes (IsScan w) h g → g.phase ≡ h.phase
scans_phase w h g k = entries_phase w h g k.entries k.each k.runs.steps
