use Rattle.cli.proofs.Kept.{written_kept}
use Rattle.cli.proofs.serving.told_stray.Goals as goal

pub returns-clause-told : goal.returns-clause-told
returns-clause-told g c = (
  c.args.actor,
  written_kept c.tell_stray-written.result _ _ _ _
      c.tell_stray-written.ensures c.in_ok-all_told.ensures.written c.in_ok-all_told.ensures.keeps,
)
