use Rattle.std.proofs.Common.{refl}
use Rattle.model.specs.declared.steps.Step.TheVariants as steps
use Rattle.managed.proofs.Going.{whole, whole_stands}
use Rattle.managed.proofs.managed.ManagedHeap.read_global_by_steps.Goals as goal

pub returns-clause-loads : goal.returns-clause-loads
returns-clause-loads c = whole c.args.self.now c.load_global.new.self c.end_read.new.self c.args.thread
    (steps.LoadGlobal c.args.target c.args.global) c.in_ok-load_global.field-0 c.end_read.result
    c.in_ok-load_global.ensures.does c.in_ok-load_global.ensures.stands c.end_read.ensures

pub returns-clause-stands : goal.returns-clause-stands
returns-clause-stands c =
    let begin = steps.LoadGlobal c.args.target c.args.global in
    whole_stands c.args.self.now c.end_read.new.self c.args.thread begin c.end_read.result (λ p p0. refl)
    (whole c.args.self.now c.load_global.new.self c.end_read.new.self c.args.thread begin c.in_ok-load_global.field-0
    c.end_read.result c.in_ok-load_global.ensures.does c.in_ok-load_global.ensures.stands c.end_read.ensures)
