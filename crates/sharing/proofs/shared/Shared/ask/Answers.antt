use Rattle.std.proofs.Common.{subst}
use Rattle.sharing.specs.Seats.{Notes, SeatState}
use Rattle.sharing.proofs.shared.Shared.ask.Goals as goal

pub returns-else-eq : goal.returns-else-eq
returns-else-eq g c = subst (λ (s : SeatState). Notes s c.args.step.now c.attempt-reply.result c.attempt-reply.new.seat)
    c.loop.invariant.2 c.attempt-reply.ensures
