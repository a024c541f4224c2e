use Rattle.std.proofs.Common.{sym, ◌∙◌, arith}
use Rattle.choosing.proofs.Numbered.{none_more}
use Rattle.choosing.proofs.threading.last_in_use.Goals as goal

pub loop-index-preserved : goal.loop-index-preserved
loop-index-preserved c =
    none_more c.args.heap.now c.page_count-pages.result c.loop-index.index c.loop-index.invariant
    (omega (arith, c.loop-index-test.true)) (sym c.is_in_use.ensures ∙ c.if-is_in_use.false)
