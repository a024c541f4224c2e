use Rattle.std.proofs.Common.{◌+◌, ◌∙◌, arith, ap, subst}
use Rattle.model.specs.Owning.{IsStore}
use Rattle.model.specs.Phases.{is_crossing}
use Rattle.model.specs.States.{HeapState}
use Rattle.model.specs.Stores.{StoreState}
use Rattle.collecting.proofs.Collections.{left_all, left_first, left_more, left_stops}
use Rattle.collecting.proofs.leftovers.settle_pages.Goals as goal

pub loop-index-init : goal.loop-index-init
loop-index-init c = left_first c.args.heap.now

pub settle_page-requires : goal.settle_page-requires
settle_page-requires c = ap is_crossing c.loop-index.invariant.phase ∙ c.requires

pub loop-index-preserved : goal.loop-index-preserved
loop-index-preserved c = left_more c.args.heap.now c.loop-index.heap c.settle_page.new.heap c.loop-index.index
    c.settle_page.result tt c.in_default.is c.loop-index.invariant c.settle_page.ensures

pub returns-in-Err : goal.returns-in-Err
returns-in-Err c = left_stops c.args.heap.now c.loop-index.heap c.settle_page.new.heap (c.loop-index.index + 1)
    c.loop-index.index c.settle_page.result c.in-Err.refusal c.in-Err.is c.loop-index.invariant c.settle_page.ensures

pub returns : goal.returns
returns c = left_all c.args.heap.now c.loop-index.heap c.loop-index.index
    (subst (λ (h : HeapState). IsStore h.store) c.heap-2.ensures c.law.ensures.store) c.requires
    (omega (
      arith,
      c.loop-index-test.false,
      c.page_count-index-end.ensures,
      ap (λ (s : StoreState). s.count) c.memory.ensures,
      ap (λ (h : HeapState). h.store.count) c.heap.ensures,
    ))
    c.loop-index.invariant
