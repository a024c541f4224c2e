use Rattle.std.proofs.Common.{◌∙◌, ◌+◌, ap, count_by}
use Rattle.forward.proofs.Flagged.{flags_counted}
use Rattle.forward.proofs.flags.Flags.count.Goals as goal

pub returns : goal.returns
returns c =
    ap (λ n. c.self.inside.done + n) c.count.ensures.value
    ∙ flags_counted c.self.inside.done c.self.inside.row c.self.invariant
    ∙ ap (count_by (λ b. b)) c.self.view_is
