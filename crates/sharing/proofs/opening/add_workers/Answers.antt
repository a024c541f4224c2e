use Rattle.model.specs.declared.steps.Actor.TheVariants.{Worker}
use Rattle.sharing.proofs.Opened.{one_more}
use Rattle.sharing.proofs.opening.add_workers.Goals as goal

pub loop-number-preserved : goal.loop-number-preserved
loop-number-preserved c =
    one_more Worker c.args.history.now.entries c.args.seats.now.items c.loop-number.seats.items c.push.new.self.items
    c.loop-number.number c.in_ok-seat.field-0 c.loop-number.invariant c.in_ok-seat.ensures c.in_ok-push.ensures.items
