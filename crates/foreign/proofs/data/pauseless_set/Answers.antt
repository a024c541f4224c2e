use Rattle.model.specs.declared.steps.Step.TheVariants as steps
use Rattle.foreign.proofs.Calling.{stepped_in_one}
use Rattle.foreign.proofs.data.pauseless_set.Goals as goal

pub returns-then-set_datum_at_once : goal.returns-then-set_datum_at_once
returns-then-set_datum_at_once c =
    stepped_in_one c.args.thread (steps.SetDatum c.args.object c.args.index c.args.value) c.in-Some.held.now
    c.args.heap.now.slot.held c.set_datum_at_once.result
    (record c.in-Some.held.now { heap = c.set_datum_at_once.new.self }) _
    c.in-Some.ensures.lent c.set_datum_at_once.ensures c.if-set_datum_at_once.true
    (c.lend.follows.holds (record c.in-Some.held.now { heap = c.set_datum_at_once.new.self }))
