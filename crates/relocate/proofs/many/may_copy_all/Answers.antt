use Rattle.std.proofs.Common.{arith}
use Rattle.relocate.specs.Many.{MayCopyPage}
use Rattle.relocate.proofs.Together.{each_all, each_more}
use Rattle.relocate.proofs.many.may_copy_all.Goals as goal

pub loop-index-preserved : goal.loop-index-preserved
loop-index-preserved c = each_more (MayCopyPage c.args.worker c.args.heap.now) c.args.pages.now c.loop-index.index _
    c.loop-index.invariant (omega (arith, c.loop-index-test.true))
    (c.may_copy.ensures c.if-not-may_copy.false)

pub returns : goal.returns
returns c = λ done. each_all (MayCopyPage c.args.worker c.args.heap.now) c.args.pages.now c.loop-index.index
    c.loop-index.invariant (omega (arith, c.loop-index-test.false))
