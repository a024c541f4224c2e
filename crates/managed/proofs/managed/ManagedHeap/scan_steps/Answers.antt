use Rattle.std.proofs.Common.{◌∙◌, ap, arith, sym}
use Rattle.model.specs.Scans.{next_drain}
use Rattle.model.specs.States.{HeapState}
use Rattle.managed.proofs.Counting.{scan_all, scan_first, scan_next, scan_some, scan_stops}
use Rattle.managed.proofs.Going.{scan_goes, scan_ends}
use Rattle.managed.proofs.managed.ManagedHeap.scan_steps.Goals as goal

pub loop-done-init : goal.loop-done-init
loop-done-init c = scan_first c.args.worker c.args.most c.args.self.now

pub loop-done-preserved : goal.loop-done-preserved
loop-done-preserved c = scan_next c.args.worker c.loop-done._done c.args.most c.args.self.now c.loop-done.self
    c.step.new.self c.in-Some.step c.step.result c.in-Ok.field-0 (omega (arith, c.loop-done-test.true))
    (ap (λ (h : HeapState). next_drain h c.args.worker) (sym c.heap.ensures) ∙ sym c.next_drain.ensures
    ∙ c.in-Some.is)
    c.in-Ok.is c.step.ensures.does c.step.ensures.stands c.loop-done.invariant

pub returns-in_default-clause-goes : goal.returns-in_default-clause-goes
returns-in_default-clause-goes c = c.loop-done.invariant.by.goes

pub returns-in_default-clause-far : goal.returns-in_default-clause-far
returns-in_default-clause-far c = scan_some c.args.worker c.loop-done._done c.args.most c.args.self.now
    c.loop-done.self c.loop-done.invariant

pub returns-in-Err-clause-goes : goal.returns-in-Err-clause-goes
returns-in-Err-clause-goes c = scan_goes c.args.worker c.args.self.now c.loop-done.self c.step.new.self c.in-Some.step
    c.step.result
    (ap (λ (h : HeapState). next_drain h c.args.worker) (sym c.heap.ensures) ∙ sym c.next_drain.ensures
    ∙ c.in-Some.is)
    c.step.ensures.does c.step.ensures.stands c.loop-done.invariant.by.goes

pub returns-in-Err-clause-ends : goal.returns-in-Err-clause-ends
returns-in-Err-clause-ends c = scan_ends c.args.worker c.loop-done.self c.step.new.self c.in-Some.step
    c.step.result c.in-Err.refusal
    (ap (λ (h : HeapState). next_drain h c.args.worker) (sym c.heap.ensures) ∙ sym c.next_drain.ensures
    ∙ c.in-Some.is)
    c.in-Err.is c.step.ensures.does

pub returns-in-Err-clause-far : goal.returns-in-Err-clause-far
returns-in-Err-clause-far c = scan_stops c.args.worker c.loop-done._done c.args.most c.args.self.now c.loop-done.self
    c.step.new.self c.in-Some.step c.step.result c.in-Err.refusal
    (ap (λ (h : HeapState). next_drain h c.args.worker) (sym c.heap.ensures) ∙ sym c.next_drain.ensures
    ∙ c.in-Some.is)
    c.in-Err.is c.step.ensures.does c.loop-done.invariant

pub returns-clause-goes : goal.returns-clause-goes
returns-clause-goes c = c.loop-done.invariant.by.goes

pub returns-clause-far : goal.returns-clause-far
returns-clause-far c = scan_all c.args.worker c.loop-done._done c.args.most c.args.self.now c.loop-done.self
    (omega (arith, c.loop-done-test.false)) c.loop-done.invariant
