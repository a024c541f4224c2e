use Rattle.std.proofs.Common.{rules, ◌∙◌, sym}
use Rattle.crossbeam_utils.specs.Seq.{cell_view}
use Rattle.tokens.proofs.Moves.{deals_as}
use Rattle.tokens.proofs.tokens.KeeperToken.deal.Goals as goal

pub split_pass-pass-requires : goal.split_pass-pass-requires
split_pass-pass-requires g c =
    let k = cell_view c.self.inside.pass in
    let i = c.self.invariant in (
      search rules,
      (search rules, (i.1 ∙ sym i.0, deals_as c.self.inside.pass.id k k.rows k.dealt i.2)),
    )
