use Rattle.std.proofs.Common.{◌-◌}
use Rattle.cycle.specs.Loads.{behind}
use Rattle.cycle.specs.Drains.{drain_within, verdict}
use Rattle.cycle.proofs.Begun.{LeadsOn}
use Rattle.cycle.proofs.WholeDrains.{IsLeft}
use Rattle.cycle.proofs.book.Book.drain_within.Given as goal

-- the remaining steps lead to the same, and a beginning from here on is a beginning from the start
abbrev pub invariant-loop : goal.invariant-loop
invariant-loop l = record {
  left : IsLeft l.replies.items (l.most - l.counter) l.self l.worker
      (behind l.fn.replies.items (drain_within l.most l.fn.self l.worker))
      (verdict (drain_within l.most l.fn.self l.worker).replies);
  begun : LeadsOn (drain_within l.most l.fn.self l.worker).book l.fn.self l.fn.replies.items l.self l.replies.items;
}
