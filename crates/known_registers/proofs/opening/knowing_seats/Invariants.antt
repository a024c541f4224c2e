use Rattle.std.proofs.Common.{◌≡◌, ◌++◌, length, map}
use Rattle.std.specs.List.{range_with_len}
use Rattle.std.specs.Vec.Iter.{into_iter_items}
use Rattle.known_registers.specs.Knowing.{thread_of}
use Rattle.known_registers.proofs.opening.knowing_seats.Given as goal

abbrev pub invariant-loop-seat : goal.invariant-loop-seat
invariant-loop-seat g l =
    (goal.iterator-loop-seat g).can_next l.seat-iterator ×
    (goal.iterator-loop-seat g).is_finite l.seat-iterator ×
    (l.keeper.rows ≡ l.initial.keeper.rows) ×
    (l.keeper.dealt ≡ length l.yielded) ×
    (l.yielded ++ into_iter_items l.seat-iterator ≡ range_with_len 0 l.fn.count) ×
    (map thread_of l.knowing.items ≡ l.yielded)
