use Rattle.std.proofs.Common.{◌≡◌}
use Rattle.foreign.proofs.Calling.{datum_in_one}
use Rattle.foreign.proofs.data.pauseless_get.Goals as goal

pub returns-in-Some-datum_at_once : goal.returns-in-Some-datum_at_once
returns-in-Some-datum_at_once c =
    datum_in_one c.args.thread c.args.object c.args.index c.in-Some-datum_at_once.datum
    (c.in-Some-datum_at_once.datum ≡ c.args.value.now) c.in-Some.held.now c.args.heap.now.slot.held _
    c.in-Some.ensures.lent c.in-Some-datum_at_once.ensures.gives c.in-Some-datum_at_once.ensures.stands
    (c.lend.follows.holds c.in-Some.held.now)
