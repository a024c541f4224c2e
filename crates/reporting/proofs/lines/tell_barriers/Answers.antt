use Rattle.std.proofs.Common.{subst}
use Rattle.std.specs.Io.KnownBytes.{Appends}
use Rattle.reporting.specs.Lines.{texts_from}
use Rattle.reporting.specs.Reports.{barrier_line}
use Rattle.reporting.proofs.Telling.{told_item, told_end}
use Rattle.reporting.proofs.lines.tell_barriers.Goals as goal

pub loop-number-preserved : goal.loop-number-preserved
loop-number-preserved g c = told_item barrier_line c.loop-number.number
    c.threads-threads.result.now c.index-threads-number.result _ _ _ _ c.loop-number.invariant c.loop-number-test.true
    c.index-threads-number.is c.in_ok-tell_barrier.ensures

pub returns : goal.returns
returns g c =
    let told = told_end barrier_line c.loop-number.number c.threads-threads.result.now
    _ _ _ c.loop-number.invariant c.loop-number-test.false in
    subst (λ ts. Appends (g.W.Write.contents c.args.w.now) (g.W.Write.contents c.loop-number.w)
    (texts_from barrier_line 0 ts)) c.threads-threads.ensures told
