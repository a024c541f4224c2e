use Rattle.std.proofs.Common.{arith}
use Rattle.sharing.proofs.Settles.{lacking_at, looked_to}
use Rattle.sharing.proofs.settling.first_lacking.Goals as goal

pub loop-index-preserved : goal.loop-index-preserved
loop-index-preserved c =
    lacking_at c.args.history.now.entries c.args.seats.now c.loop-index.index c.actor_at-actor.result c.loop-index.found
    c.has_one-fine.result c.noted-found.result
    (omega (arith, c.loop-index-test.true, c.len-index-end.ensures.value)) c.actor_at-actor.ensures
    c.loop-index.invariant c.has_one-fine.ensures c.noted-found.ensures

pub returns : goal.returns
returns c =
    looked_to c.args.history.now.entries c.args.seats.now c.loop-index.index c.loop-index.found
    (omega (arith, c.loop-index-test.false, c.len-index-end.ensures.value)) c.loop-index.invariant
