use Rattle.std.proofs.Common.{arith}
use Rattle.verify.proofs.Searching.{one_more}
use Rattle.verify.proofs.tables.is_rising.Goals as goal

pub loop-k-preserved : goal.loop-k-preserved
loop-k-preserved c =
    let l = c.loop-k in
    one_more c.args.words c.args.side.now l.k l.above c.index-side-side.result c.loop-k-test.true c.index-side-side.is
    l.invariant (omega (arith, c.if-entry-above.false))
