use Rattle.std.proofs.Common.{refl}
use Rattle.model.specs.declared.steps.Step.TheVariants as steps
use Rattle.managed.proofs.Going.{whole, whole_stands}
use Rattle.managed.proofs.managed.ManagedHeap.read_by_steps.Goals as goal

pub returns-clause-loads : goal.returns-clause-loads
returns-clause-loads c = whole c.args.self.now c.load.new.self c.end_read.new.self c.args.thread
    (steps.Load c.args.target c.args.object c.args.field) c.in_ok-load.field-0 c.end_read.result
    c.in_ok-load.ensures.does c.in_ok-load.ensures.stands c.end_read.ensures

pub returns-clause-stands : goal.returns-clause-stands
returns-clause-stands c =
    let begin = steps.Load c.args.target c.args.object c.args.field in
    whole_stands c.args.self.now c.end_read.new.self c.args.thread begin c.end_read.result (λ p p0. refl)
    (whole c.args.self.now c.load.new.self c.end_read.new.self c.args.thread begin c.in_ok-load.field-0
    c.end_read.result c.in_ok-load.ensures.does c.in_ok-load.ensures.stands c.end_read.ensures)
