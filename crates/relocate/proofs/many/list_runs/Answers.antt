use Rattle.std.proofs.Common.{arith}
use Rattle.relocate.proofs.Together.{all_tiled, page_tiled}
use Rattle.relocate.proofs.many.list_runs.Goals as goal

pub loop-index-preserved : goal.loop-index-preserved
loop-index-preserved c = record {
  to = c.in_ok-add_page.ensures.to;
  tiled = page_tiled c.args.heap.now.sides c.args.pages.now c.loop-index.index _ c.loop-index.targets.items
      c.add_page.new.targets.items (omega (arith, c.loop-index-test.true)) c.loop-index.invariant.tiled
      c.in_ok-add_page.ensures.adds;
}

pub returns-clause-tiled : goal.returns-clause-tiled
returns-clause-tiled c = all_tiled c.args.heap.now.sides c.args.pages.now c.loop-index.index c.loop-index.targets.items
    (omega (arith, c.loop-index-test.false)) c.loop-index.invariant.tiled
