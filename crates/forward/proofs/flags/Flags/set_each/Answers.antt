use Rattle.std.proofs.Common.{◌+◌, ◌-◌, ◌∙◌, sym, ap, arith}
use Rattle.forward.specs.Flags.{put_run}
use Rattle.forward.proofs.Flagged.{run_more}
use Rattle.forward.proofs.flags.Flags.set_each.Goals as goal

pub loop-index-preserved : goal.loop-index-preserved
loop-index-preserved c =
    let i = c.loop-index.index in
    c.loop-index.invariant
    ∙ run_more (c.args.first + i) (c.args.first + (i + 1)) (c.args.count - i) (c.args.count - (i + 1)) c.loop-index.self
    (omega (arith, c.loop-index-test.true)) (omega arith)
    ∙ ap (put_run (c.args.first + (i + 1)) (c.args.count - (i + 1))) (sym c.set.ensures)
