use Rattle.std.proofs.Common.{◌≡◌, ◌-◌}
use Rattle.cycle.specs.Loads.{behind, trap_load}
use Rattle.cycle.proofs.Begun.{LeadsOn}
use Rattle.cycle.proofs.book.Book.trap_load.Given as goal

-- the remaining traps lead to the same, and a beginning from here on is a beginning from the start
abbrev pub invariant-loop : goal.invariant-loop
invariant-loop l = record {
  steps : behind l.replies.items (trap_load (3 - l.counter) l.due l.self l.actor)
      ≡ behind l.fn.replies.items (trap_load 3 l.fn.due l.fn.self l.actor);
  begun : LeadsOn (trap_load 3 l.fn.due l.fn.self l.actor).book l.fn.self l.fn.replies.items l.self l.replies.items;
}
