use Rattle.std.proofs.Common.{arith}
use Rattle.page.proofs.Swapping.{swaps_first, swaps_next, swaps_last}
use Rattle.page.proofs.owned.swap_pages.Goals as goal

pub loop-index-init : goal.loop-index-init
loop-index-init c = swaps_first c.args.records.now c.args.first c.args.frames.now c.args.owned.now

pub loop-index-preserved : goal.loop-index-preserved
loop-index-preserved c =
    swaps_next c.args.records.now c.args.first c.args.frames.now c.args.owned.now c.loop-index.index
    c.loop-index.frames c.swap_page.new.frames c.loop-index.owned c.index-owned-index.result c.swap_page.new.owned
    c.loop-index.invariant (omega (arith, c.loop-index-test.true, c.loop-index.auto.owned))
    c.swap_page.ensures.frames c.swap_page.ensures.owned

pub returns : goal.returns
returns c =
    swaps_last c.args.records.now c.args.first c.args.frames.now c.args.owned.now c.loop-index.index
    c.loop-index.frames c.loop-index.owned c.loop-index.invariant
    (omega (arith, c.loop-index-test.false, c.loop-index.auto.owned))
