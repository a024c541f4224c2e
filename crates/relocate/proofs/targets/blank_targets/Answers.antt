use Rattle.std.proofs.Common.{◌∙◌, subst}
use Rattle.model.specs.States.{HeapState}
use Rattle.page_rows.specs.Opening.{IsBlank}
use Rattle.relocate.proofs.Opening.{one_more}
use Rattle.relocate.proofs.targets.blank_targets.Goals as goal

pub loop-preserved : goal.loop-preserved
loop-preserved c =
    let words = c.args.heap.now.store.words in
    let blank = subst (λ (h : HeapState). IsBlank h.store.words c.in_ok-raw_blank.field-0) c.loop.invariant.heap
    c.in_ok-raw_blank.ensures.value in
    record {
      memory = one_more words c.loop.counter c.loop.memory.items c.push.new.self.items c.in_ok-raw_blank.field-0
          c.loop.invariant.memory blank c.in_ok-push.ensures.items;
      heap = c.raw_blank.ensures.stays ∙ c.loop.invariant.heap;
    }
