use Rattle.std.proofs.Common.{◌≡◌, ◌+◌, drop}
use Rattle.reporting.specs.Texts.{Leads}
use Rattle.script.specs.Output.{lines_text, book_after}
use Rattle.script.proofs.schedule.tell_commands.Given as goal

abbrev pub invariant-loop-command : goal.invariant-loop-command
invariant-loop-command g l = record {
  count : l.number ≡ l.command-index + 1;
  told : Leads (g.W.Write.contents l.initial.w) (g.W.Write.contents l.w)
      (lines_text l.number l.book (drop l.command-index l.commands)) (lines_text 1 l.fn.book l.commands);
  book : book_after l.book (drop l.command-index l.commands) ≡ book_after l.fn.book l.commands;
}
