use Rattle.cli.proofs.Kept.{written_kept}
use Rattle.cli.proofs.serving.told_settled.Goals as goal

pub returns-clause-told : goal.returns-clause-told
returns-clause-told g c = record {
  book = c.args.settled.now.book;
  law = c.law.ensures.book;
  seats = c.args.settled.now.seats.items;
  settled = c.requires;
  written = written_kept c.tell_threads-written.result _ _ _ _
      c.tell_threads-written.ensures c.in_ok-all_told.ensures.written c.in_ok-all_told.ensures.keeps;
}
