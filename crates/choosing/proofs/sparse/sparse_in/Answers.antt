use Rattle.std.proofs.Common.{refl}
use Rattle.choosing.proofs.Sums.{one_more}
use Rattle.choosing.proofs.sparse.sparse_in.Goals as goal

pub loop-index-preserved : goal.loop-index-preserved
loop-index-preserved c = (
  one_more c.args.heap.now c.args.percent c.args.first c.loop-index.index c.loop-index.pages.items
      c.loop-index.live_words c.loop-index.invariant.0 _ _ _ _ c.measure_objects-found.ensures.sparse
      c.in_ok-add_sparse.ensures c.measure_objects-found.ensures.live c.measure_objects-found.ensures.range refl,
  c.add_objects.ensures c.args.heap.now c.loop-index.invariant.1 c.measure_objects-found.ensures.objects,
)
