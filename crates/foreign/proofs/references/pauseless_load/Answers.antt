use Rattle.model.specs.declared.steps.Step.TheVariants as steps
use Rattle.foreign.proofs.Calling.{loaded_in_one}
use Rattle.foreign.proofs.references.pauseless_load.Goals as goal

pub returns-then-read_at_once : goal.returns-then-read_at_once
returns-then-read_at_once c =
    loaded_in_one c.args.thread (steps.Load c.args.target c.args.object c.args.field) c.in-Some.held.now
    c.args.heap.now.slot.held c.read_at_once.result (record c.in-Some.held.now { heap = c.read_at_once.new.self }) _
    c.in-Some.ensures.lent c.read_at_once.ensures c.if-read_at_once.true
    (c.lend.follows.holds (record c.in-Some.held.now { heap = c.read_at_once.new.self }))
