use Rattle.std.proofs.Common.{◌≡◌, ◌++◌, map}
use Rattle.std.specs.List.{range_with_len}
use Rattle.model.specs.declared.steps.Actor.TheVariants.{Worker}
use Rattle.sharing.specs.Seats.{seat_from}
use Rattle.sharing.proofs.opening.add_workers.Given as goal

abbrev pub invariant-loop-number : goal.invariant-loop-number
invariant-loop-number l =
    l.seats.items ≡ l.initial.seats.items ++ map (seat_from l.fn.history.entries)
    (map Worker (range_with_len 0 l.number))
