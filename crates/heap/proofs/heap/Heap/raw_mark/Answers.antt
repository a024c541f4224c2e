use Rattle.std.proofs.Common.{Bool, true, Some, ◌∙◌, sym, ap, subst}
use Rattle.heap.specs.Marking.{marked_at, MarksFirst}
use Rattle.heap.specs.Views.{heap_of}
use Rattle.heap.proofs.Marking.{marked_first, marked_again, marked_nowhere, mark_keeps, todo_keeps}
use Rattle.heap.proofs.heap.Heap.raw_mark.Goals as goal

pub invariant_of-self : goal.invariant_of-self
invariant_of-self c =
    mark_keeps (heap_of c.self.inside) _ c.args.place true c.self.invariant c.test_and_mark.ensures.mark

pub invariant_of-self-in-Some-false : goal.invariant_of-self-in-Some-false
invariant_of-self-in-Some-false c =
    mark_keeps (heap_of c.self.inside) _ c.args.place true c.self.invariant c.test_and_mark.ensures.mark

pub invariant_of-self-in-None : goal.invariant_of-self-in-None
invariant_of-self-in-None c =
    let h = heap_of c.self.inside in
    todo_keeps (record h { mark = c.test_and_mark.new.mark }) _ c.args.place true
    (mark_keeps h _ c.args.place true c.self.invariant c.test_and_mark.ensures.mark) c.put_indexed_bit.ensures

pub returns-in-Some-false : goal.returns-in-Some-false
returns-in-Some-false c =
    let h = heap_of c.self.inside in
    subst (λ x. MarksFirst x c.args.place (record h { mark = c.test_and_mark.new.mark })) c.self.view_is
    (marked_first h c.args.place c.test_and_mark.new.mark c.test_and_mark.ensures.mark
    (sym c.test_and_mark.ensures.was ∙ c.in-Some-false.is ∙ ap (λ (b : Bool). Some b) c.in-Some-false.field-0-test))

pub returns-in-Some-true : goal.returns-in-Some-true
returns-in-Some-true c =
    let h = heap_of c.self.inside in
    marked_again h c.args.place c.test_and_mark.new.mark c.test_and_mark.ensures.mark
    (sym c.test_and_mark.ensures.was ∙ c.in-Some-true.is ∙ ap (λ (b : Bool). Some b) c.in-Some-true.field-0-test)
    ∙ ap (λ x. marked_at x c.args.place) c.self.view_is

pub returns-in-None : goal.returns-in-None
returns-in-None c =
    let h = heap_of c.self.inside in
    marked_nowhere h c.args.place c.test_and_mark.new.mark c.put_indexed_bit.new.rows c.test_and_mark.ensures.mark
    c.put_indexed_bit.ensures (sym c.test_and_mark.ensures.was ∙ c.in-None.is)
    ∙ ap (λ x. marked_at x c.args.place) c.self.view_is
