use Rattle.std.proofs.Common.{rules}
use Rattle.crossbeam_utils.specs.Seq.{cell_view}
use Rattle.tokens.proofs.Moves.{finds_as}
use Rattle.tokens.proofs.tokens.compare.Goals as goal

pub load_as-requires : goal.load_as-requires
load_as-requires g c =
    let k = cell_view c.args.keeper.now in (
      search rules,
      (
        search rules,
        (c.requires.cell, finds_as c.args.keeper.now.id k k.rows k.dealt k.thread k.registers c.requires.both),
      ),
    )
