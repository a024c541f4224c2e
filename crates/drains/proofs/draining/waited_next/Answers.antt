use Rattle.std.proofs.Common.{sym, subst, reverse}
use Rattle.model.specs.States.{HeapState}
use Rattle.drains.specs.Waiting.{AreWaiting, IsNext}
use Rattle.drains.proofs.Waiting.{waited_is_next, rest_wait, next_of_noted, not_taken}
use Rattle.drains.proofs.draining.waited_next.Goals as goal

pub returns-then-is_untaken : goal.returns-then-is_untaken
returns-then-is_untaken c = waited_is_next c.args.heap.now c.args.address (reverse c.args.waiting.now.items)
    c.law.ensures.heap c.requires.waiting
    (not_taken c.args.heap.now c.args.address c.number.result c.is_untaken.result c.number.ensures.value
    c.is_untaken.ensures c.if-is_untaken.true)

pub noted_next-requires : goal.noted_next-requires
noted_next-requires c =
    subst (λ (x : HeapState). AreWaiting x.mark x.store.words (reverse c.args.waiting.now.items))
    (sym c.raw_set_todo.ensures)
    (rest_wait c.args.heap.now c.args.address (reverse c.args.waiting.now.items) c.requires.waiting)

pub returns : goal.returns
returns c = next_of_noted c.args.heap.now c.noted_next.new.heap c.args.address c.noted_next.result
    (reverse c.args.waiting.now.items) (reverse c.noted_next.new.waiting.items)
    (subst (λ x. IsNext x (reverse c.args.waiting.now.items) c.noted_next.result c.noted_next.new.heap
    (reverse c.noted_next.new.waiting.items)) c.raw_set_todo.ensures c.noted_next.ensures)
