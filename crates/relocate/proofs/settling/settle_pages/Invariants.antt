use Rattle.std.proofs.Common.{◌≡◌, drop, length}
use Rattle.relocate.specs.Drafts.{with_settled}
use Rattle.relocate.proofs.settling.settle_pages.Given as goal

abbrev pub invariant-loop-index : goal.invariant-loop-index
invariant-loop-index l = record {
  heap : l.heap ≡ record l.fn.heap { sides = l.heap.sides };
  sides : with_settled l.fn.heap.store.words l.fn.targets l.fn.pages l.fn.drafts.items l.fn.heap.sides
      ≡ with_settled l.fn.heap.store.words l.fn.targets (drop l.index l.fn.pages) (drop l.index l.fn.drafts.items)
      l.heap.sides;
  left : drop l.index l.drafts.items ≡ drop l.index l.fn.drafts.items;
  many : length l.drafts.items ≡ length l.fn.drafts.items;
}
