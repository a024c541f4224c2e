use Rattle.std.proofs.Common.{rules, [], ◌∷◌}
use Rattle.crossbeam_utils.specs.Seq.{cell_view}
use Rattle.tokens.proofs.Moves.{begun_as}
use Rattle.tokens.proofs.tokens.begin.Goals as goal

pub swap_as-requires : goal.swap_as-requires
swap_as-requires g c = (
  search rules,
  (
    search rules,
    (
      c.requires.cell,
      begun_as c.args.keeper.now.id (cell_view c.args.keeper.now) [] g.B.Telling.rows (0 ∷ []) c.requires.keeps,
    ),
  ),
)
