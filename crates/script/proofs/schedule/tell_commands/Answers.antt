use Rattle.std.proofs.Common.{arith, ◌∙◌}
use Rattle.script.proofs.Telling.{line_item, lines_told, book_item, book_end}
use Rattle.script.proofs.schedule.tell_commands.Goals as goal

pub loop-command-preserved : goal.loop-command-preserved
loop-command-preserved g c =
    let i = c.loop-command.invariant in
    record {
      count = omega (arith, i.count);
      told = line_item c.loop-command.number c.loop-command.command-index c.loop-command.book c.do_command.new.book
          c.args.commands.now c.command-item.result _ _ _ _ _ i.told c.loop-command-test.true c.command-item.is
          (c.deref.ensures.value ∙ c.in_ok-do_command.ensures.replies) c.in_ok-do_command.ensures.book
          c.in_ok-tell_command.ensures;
      book = book_item c.loop-command.command-index c.loop-command.book c.do_command.new.book _ c.args.commands.now
          c.command-item.result i.book c.loop-command-test.true c.command-item.is c.in_ok-do_command.ensures.book;
    }

pub returns-clause-lines : goal.returns-clause-lines
returns-clause-lines g c = lines_told c.loop-command.number c.loop-command.command-index c.loop-command.book
    c.args.commands.now _ _ _ c.loop-command.invariant.told c.loop-command-test.false

pub returns-clause-book : goal.returns-clause-book
returns-clause-book g c = book_end c.loop-command.command-index c.loop-command.book _ c.args.commands.now
    c.loop-command.invariant.book c.loop-command-test.false
