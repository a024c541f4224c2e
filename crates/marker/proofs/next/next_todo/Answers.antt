use Rattle.std.proofs.Common.{◌∙◌, ◌+◌, ap, subst}
use Rattle.std.specs.Prelude.{Some}
use Rattle.model.specs.Bits.{of_page}
use Rattle.marker.specs.Free.{IsNextFree}
use Rattle.marker.proofs.Free.{busy_is, none_busy, found_on, none_found_on, none_left, on_page}
use Rattle.marker.proofs.next.next_todo.Goals as goal

pub address_on-requires-clause-within : goal.address_on-requires-clause-within
address_on-requires-clause-within c =
    let h = c.args.heap.now in
    let page = c.in-Some.index + 1 in
    (found_on h c.loop-index.from c.in-Some.index c.in-Some-next_on.place c.law.ensures.heap c.loop-index.invariant
    (busy_is h.todo _ c.loop-index.from c.in-Some.index c.next_busy.result c.todo.ensures c.in-Some.is
    c.next_busy.ensures)
    (subst (IsNextFree h (of_page h.todo page) page) c.in-Some-next_on.is c.next_on.ensures)).0

pub returns-in-Some-next_on-clause-page : goal.returns-in-Some-next_on-clause-page
returns-in-Some-next_on-clause-page c =
    let h = c.args.heap.now in
    let page = c.in-Some.index + 1 in
    let busy = busy_is h.todo _ c.loop-index.from c.in-Some.index c.next_busy.result c.todo.ensures c.in-Some.is
    c.next_busy.ensures in
    let within = (found_on h c.loop-index.from c.in-Some.index c.in-Some-next_on.place c.law.ensures.heap
    c.loop-index.invariant busy
    (subst (IsNextFree h (of_page h.todo page) page) c.in-Some-next_on.is c.next_on.ensures)).0 in
    on_page h c.loop-index.from c.in-Some.index c.in-Some-next_on.place c.address_on.result c.law.ensures.store
    c.law.ensures.heap busy within c.address_on.ensures

pub returns-in-Some-next_on-clause-first : goal.returns-in-Some-next_on-clause-first
returns-in-Some-next_on-clause-first c =
    let h = c.args.heap.now in
    let page = c.in-Some.index + 1 in
    ap Some c.address_on.ensures
    ∙ (found_on h c.loop-index.from c.in-Some.index c.in-Some-next_on.place c.law.ensures.heap c.loop-index.invariant
    (busy_is h.todo _ c.loop-index.from c.in-Some.index c.next_busy.result c.todo.ensures c.in-Some.is
    c.next_busy.ensures)
    (subst (IsNextFree h (of_page h.todo page) page) c.in-Some-next_on.is c.next_on.ensures)).1

pub loop-index-preserved : goal.loop-index-preserved
loop-index-preserved c =
    let h = c.args.heap.now in
    let page = c.in-Some.index + 1 in
    none_found_on h c.loop-index.from c.in-Some.index c.loop-index.invariant
    (busy_is h.todo _ c.loop-index.from c.in-Some.index c.next_busy.result c.todo.ensures c.in-Some.is
    c.next_busy.ensures)
    (subst (IsNextFree h (of_page h.todo page) page) c.in_default-next_on.is c.next_on.ensures)

pub returns-clause-first : goal.returns-clause-first
returns-clause-first c =
    let h = c.args.heap.now in
    none_left h c.loop-index.from c.loop-index.invariant
    (none_busy h.todo _ c.loop-index.from c.next_busy.result c.todo.ensures c.in_default.is c.next_busy.ensures)
