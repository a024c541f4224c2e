use Rattle.std.proofs.Common.{drop}
use Rattle.std.specs.List.{flat_map}
use Rattle.reporting.specs.Texts.{Leads}
use Rattle.script_threads.specs.Settled.{seat_text}
use Rattle.script_threads.proofs.telling.tell_seats.Given as goal

-- what is written and what is left are all
abbrev pub invariant-loop-seat : goal.invariant-loop-seat
invariant-loop-seat g l = Leads (g.W.Write.contents l.initial.w) (g.W.Write.contents l.w)
    (flat_map seat_text (drop l.seat-index l.seats)) (flat_map seat_text l.seats)
