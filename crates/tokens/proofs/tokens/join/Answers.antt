use Rattle.std.proofs.Common.{rules}
use Rattle.crossbeam_utils.specs.Seq.{cell_view}
use Rattle.tokens.proofs.Moves.{lays_as}
use Rattle.tokens.proofs.tokens.join.Goals as goal

pub join_pass-requires : goal.join_pass-requires
join_pass-requires c =
    let k = cell_view c.args.keeper.now in
    let v = cell_view c.args.token in (
      search rules,
      (
        search rules,
        (
          (c.requires.cell, c.requires.token.0, c.requires.token.1),
          lays_as c.args.keeper.now.id k k.rows k.dealt c.args.token.id v v.thread v.registers c.requires.keeps
              c.requires.claims,
        ),
      ),
    )
