use Rattle.script_threads.specs.Settled.{seat_text}
use Rattle.script_threads.proofs.Written.{item_told, items_told}
use Rattle.script_threads.proofs.telling.tell_seats.Goals as goal

pub loop-seat-preserved : goal.loop-seat-preserved
loop-seat-preserved g c = item_told seat_text c.loop-seat.seat-index c.args.seats.now c.seat-item.result _ _ _ _
    c.loop-seat.invariant c.loop-seat-test.true c.seat-item.is c.in_ok-tell_seat.ensures

pub returns : goal.returns
returns g c = items_told seat_text c.loop-seat.seat-index c.args.seats.now _ _ _ c.loop-seat.invariant
    c.loop-seat-test.false
