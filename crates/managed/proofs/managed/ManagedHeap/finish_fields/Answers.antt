use Rattle.std.proofs.Common.{◌∙◌, arith, sym}
use Rattle.managed.proofs.Prepared.{fields_first, fields_next, fields_ended, fields_past}
use Rattle.managed.proofs.managed.ManagedHeap.finish_fields.Goals as goal

pub loop-done-init : goal.loop-done-init
loop-done-init c = fields_first c.args.worker c.args.self.now c.requires

pub loop-done-preserved : goal.loop-done-preserved
loop-done-preserved c = fields_next c.args.worker c.loop-done._done c.args.self.now c.loop-done.self
    c.scan_field.new.self c.loop-done.invariant (sym c.has_object.ensures ∙ c.if-not-has_object.false)
    c.scan_field.ensures

pub scan_field-requires-clause-busy : goal.scan_field-requires-clause-busy
scan_field-requires-clause-busy c =
    sym c.has_object.ensures ∙ c.if-not-has_object.false

pub returns-then-not-has_object-clause-goes : goal.returns-then-not-has_object-clause-goes
returns-then-not-has_object-clause-goes c = c.loop-done.invariant.goes

pub returns-then-not-has_object-clause-free : goal.returns-then-not-has_object-clause-free
returns-then-not-has_object-clause-free c = fields_ended c.args.worker c.loop-done._done c.args.self.now
    c.loop-done.self c.loop-done.invariant (sym c.has_object.ensures ∙ c.if-not-has_object.true)

pub returns-clause-goes : goal.returns-clause-goes
returns-clause-goes c = c.loop-done.invariant.goes

pub returns-clause-free : goal.returns-clause-free
returns-clause-free c = fields_past c.args.worker c.loop-done._done c.args.self.now c.loop-done.self
    c.loop-done.invariant (omega (arith, c.loop-done-test.false))
