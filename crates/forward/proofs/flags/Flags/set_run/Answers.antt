use Rattle.std.proofs.Common.{◌+◌, ◌∙◌, sym, ap, refl, arith}
use Rattle.forward.specs.Flags.{put_run}
use Rattle.forward.proofs.Flagged.{run_below, run_over}
use Rattle.forward.proofs.flags.Flags.set_run.Goals as goal

pub returns-then-end-self : goal.returns-then-end-self
returns-then-end-self c =
    run_over c.self.inside.done (c.args.first + c.args.count) c.args.first c.args.count c.self.inside.row
    (c.if-not-follows.ensures.blank refl) refl (c.if-not-follows.ensures.begins refl) c.if-end-self.true
    (c.if-not-follows.ensures.ends refl)
    ∙ ap (put_run c.args.first c.args.count) c.self.view_is

pub returns-else-end-self : goal.returns-else-end-self
returns-else-end-self c =
    sym c.self.view_is
    ∙ run_below c.self.inside.done c.args.first c.args.count c.self.inside.row (omega (arith, c.if-end-self.false))
    ∙ ap (put_run c.args.first c.args.count) c.self.view_is
