use Rattle.std.proofs.Common.{◌≡◌, ◌∙◌, ◌<◌, length, true, is_some, refl, sym, subst, ap}
use Rattle.model.specs.States.{HeapState}
use Rattle.model.specs.Stores.{StoreState}
use Rattle.model.specs.Buffers.{buffer_of_thread, take_outcome}
use Rattle.model.specs.Threads.{set_buffer_of, buffer_in}
use Rattle.std.specs.Prelude.{Some}
use Rattle.std.specs.List.{slice_get}
use Rattle.model.specs.Holding.{IsHeap}
use Rattle.page.specs.Records.{begins_page}
use Rattle.page_rows.specs.Opening.{AreClear}
use Rattle.heap.specs.Views.{heap_of}
use Rattle.heap.proofs.Keeping.{opened_keeps, thread_keeps}
use Rattle.heap.proofs.TakenBuffers.{refused_same, taken_rows, took, thread_there, threads_lent}
use Rattle.heap.proofs.heap.Heap.take_tidied.Goals as goal

pub invariant_of-self : goal.invariant_of-self
invariant_of-self c = subst (λ (s : StoreState). IsHeap (record (heap_of c.self.inside) { store = s }))
    (sym (refused_same c.self.inside.store c.take.new.self c.in-Err.room _ c.in-Err.ensures.takes)) c.self.invariant

pub invariant_of-self-2 : goal.invariant_of-self-2
invariant_of-self-2 c =
    let h = heap_of c.self.inside in
    let s = h.store in
    let t = c.take.new.self in
    let b = c.in-Ok-take.buffer in
    let n = c.args.words in
    let rows = c.in-Ok.rows in
    let took = c.in-Ok-take.ensures.takes in
    let well = c.in-Ok-take.ensures.buffers in
    let clear = subst (λ (h : HeapState). begins_page h.store n ≡ true → AreClear h.store.words rows)
    (sym c.self.view_is) c.in-Ok.ensures in
    let g = record h {
      store = t;
      starts = c.open_rows.new.starts;
      live = c.open_rows.new.live;
      mark = c.open_rows.new.mark;
      todo = c.open_rows.new.todo;
    } in
    thread_keeps g c.args.thread (set_buffer_of (Some b)) c.set_buffer.new.self (opened_keeps h t b _ _ _ _
    c.self.invariant well
    (c.open_rows.ensures.starts ∙ taken_rows s t n b h.starts rows.starts took well.sized.words (λ k. (clear k).starts))
    (c.open_rows.ensures.live ∙ taken_rows s t n b h.live rows.live took well.sized.words (λ k. (clear k).live))
    (c.open_rows.ensures.mark ∙ taken_rows s t n b h.mark rows.mark took well.sized.words (λ k. (clear k).mark))
    (c.open_rows.ensures.todo ∙ taken_rows s t n b h.todo rows.todo took well.sized.words (λ k. (clear k).todo)))
    c.set_buffer.ensures (λ x k. well.lies) (λ x. refl)

pub returns-clause-does : goal.returns-clause-does
returns-clause-does c =
    let h = heap_of c.self.inside in
    let s = h.store in
    let t = c.take.new.self in
    let b = c.in-Ok-take.buffer in
    let n = c.args.words in
    let rows = c.in-Ok.rows in
    let is = c.in-Ok-take.ensures.takes in
    let well = c.in-Ok-take.ensures.buffers in
    let clear = subst (λ (h : HeapState). begins_page h.store n ≡ true → AreClear h.store.words rows)
    (sym c.self.view_is) c.in-Ok.ensures in
    let none = ap (λ x. is_some (buffer_of_thread x c.args.thread)) c.self.view_is
    ∙ sym (ap is_some c.buffer.ensures.value) ∙ sym c.is_some.ensures ∙ c.if-is_some.false in
    ap (λ x. take_outcome x c.args.thread n) (sym c.self.view_is)
    ∙ took h c.args.thread n t b _ _ _ _ c.set_buffer.new.self none is
    (c.open_rows.ensures.starts ∙ taken_rows s t n b h.starts rows.starts is well.sized.words (λ k. (clear k).starts))
    (c.open_rows.ensures.live ∙ taken_rows s t n b h.live rows.live is well.sized.words (λ k. (clear k).live))
    (c.open_rows.ensures.mark ∙ taken_rows s t n b h.mark rows.mark is well.sized.words (λ k. (clear k).mark))
    (c.open_rows.ensures.todo ∙ taken_rows s t n b h.todo rows.todo is well.sized.words (λ k. (clear k).todo))
    c.set_buffer.ensures

pub returns-clause-buffer : goal.returns-clause-buffer
returns-clause-buffer c =
    let h = heap_of c.self.inside in
    let there = subst (λ (x : HeapState). c.args.thread < length x.threads) (sym c.self.view_is)
    (thread_there c.args.self.now c.args.thread _ c.requires) in
    ap (λ ts. buffer_in (slice_get ts c.args.thread)) c.set_buffer.ensures
    ∙ threads_lent h.threads c.args.thread c.in-Ok-take.buffer there
