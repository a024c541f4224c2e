use Rattle.model.specs.declared.steps.Step.TheVariants as steps
use Rattle.foreign.proofs.Calling.{stepped_in_one}
use Rattle.foreign.proofs.references.pauseless_store.Goals as goal

pub returns-then-store_at_once : goal.returns-then-store_at_once
returns-then-store_at_once c =
    stepped_in_one c.args.thread (steps.Store c.args.object c.args.field c.args.source) c.in-Some.held.now
    c.args.heap.now.slot.held c.store_at_once.result (record c.in-Some.held.now { heap = c.store_at_once.new.self }) _
    c.in-Some.ensures.lent c.store_at_once.ensures c.if-store_at_once.true
    (c.lend.follows.holds (record c.in-Some.held.now { heap = c.store_at_once.new.self }))
