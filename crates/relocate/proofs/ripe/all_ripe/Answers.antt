use Rattle.std.proofs.Common.{arith}
use Rattle.relocate.proofs.Ripeness.{each_high, each_low, one_closed, one_ripe}
use Rattle.relocate.proofs.ripe.all_ripe.Goals as goal

pub loop-index-preserved : goal.loop-index-preserved
loop-index-preserved c =
    let h = c.args.heap.now in
    let ns = c.args.pages.now in
    let i = c.loop-index.index in (
      one_ripe h ns i (omega (arith, c.loop-index-test.true)) c.in_ok-ripe.ensures.value c.loop-index.invariant.0,
      one_closed h.store ns i (omega (arith, c.loop-index-test.true)) c.in_ok-ripe.ensures.closed
          c.loop-index.invariant.1,
    )

pub returns-clause-low : goal.returns-clause-low
returns-clause-low c = each_low c.args.heap.now.store c.args.pages.now c.loop-index.index c.law.ensures.store
    (omega (arith, c.loop-index-test.false)) c.loop-index.invariant.1

pub returns-clause-high : goal.returns-clause-high
returns-clause-high c = each_high c.args.heap.now.store c.args.pages.now c.loop-index.index c.law.ensures.store
    (omega (arith, c.loop-index-test.false)) c.loop-index.invariant.1
