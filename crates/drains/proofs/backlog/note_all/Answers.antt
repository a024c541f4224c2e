use Rattle.std.proofs.Common.{◌++◌, refl, sym, ◌∙◌, ap, arith, length, reverse, Option}
use Rattle.std.specs.Option.{option_to_list}
use Rattle.std.proofs.lemmas.Option.{same_Some}
use Rattle.heap.specs.Marking.{noted}
use Rattle.drains.proofs.Waiting.{all_done, none_left, popped, note_more, wait_less, first_address, push_length}
use Rattle.drains.proofs.backlog.note_all.Goals as goal

pub loop-init : goal.loop-init
loop-init c = (refl, c.requires, omega arith)

pub returns-in_default-clause-heap : goal.returns-in_default-clause-heap
returns-in_default-clause-heap c = all_done _ _ c.loop.waiting.items c.loop.invariant.0
    (none_left c.loop.waiting.items c.pop.result c.pop.ensures.value c.in_default.is)

pub returns-clause-heap : goal.returns-clause-heap
returns-clause-heap c = let many = c.loop.invariant.2 in
    all_done _ _ c.loop.waiting.items c.loop.invariant.0 (omega (arith, many, c.loop-test.false))

pub loop-preserved : goal.loop-preserved
loop-preserved c =
    let old = c.loop.waiting.items in
    let rest = c.pop.new.self.items in
    let n = c.in-Some.number in
    let parts = c.pop.ensures.items ∙ ap (λ (o : Option _). rest ++ option_to_list o) c.in-Some.is in
    let turned = popped old rest n parts in
    let address = c.new.ensures.within (first_address _ _ _ _ n c.loop.invariant.1 turned) in
    let same = same_Some _ _ (sym c.unwrap.ensures ∙ address) in
    let done = c.raw_set_todo.ensures ∙ ap (noted c.loop.heap) same in
    let many = c.loop.invariant.2 in
    let fewer = ap length parts ∙ push_length rest n in (
      note_more _ c.loop.heap _ (reverse old) (reverse rest) n c.loop.invariant.0 turned done,
      wait_less c.loop.heap _ (reverse old) (reverse rest) n c.loop.invariant.1 turned done,
      omega (arith, many, fewer),
    )
