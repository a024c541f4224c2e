use Rattle.std.proofs.Common.{rules, [], ◌∷◌}
use Rattle.crossbeam_utils.specs.Seq.{cell_view}
use Rattle.tokens.proofs.Moves.{tells_as}
use Rattle.tokens.proofs.tokens.set.Goals as goal

pub swap_as-requires : goal.swap_as-requires
swap_as-requires g c =
    let k = cell_view c.args.keeper.now in (
      search rules,
      (
        search rules,
        (
          c.requires.cell,
          tells_as c.args.keeper.now.id k k.rows k.dealt k.thread k.registers g.B.Telling.rows (0 ∷ [])
              c.requires.both c.requires.change,
        ),
      ),
    )
