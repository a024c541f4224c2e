use Rattle.std.proofs.Common.{rules}
use Rattle.crossbeam_utils.specs.Seq.{cell_view}
use Rattle.tokens.proofs.Moves.{takes_as}
use Rattle.tokens.proofs.tokens.split.Goals as goal

pub split_pass-requires : goal.split_pass-requires
split_pass-requires c =
    let k = cell_view c.args.keeper.now in (
      search rules,
      (
        search rules,
        (c.requires.cell, takes_as c.args.keeper.now.id k k.rows k.dealt k.thread k.registers c.requires.both),
      ),
    )
