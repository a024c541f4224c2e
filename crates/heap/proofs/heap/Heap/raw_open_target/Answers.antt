use Rattle.std.proofs.Common.{◌∙◌, false, Bool, replicate, sym, ap}
use Rattle.model.specs.Protections.{take_target, with_target}
use Rattle.model.specs.States.{HeapState}
use Rattle.heap.specs.Views.{heap_of}
use Rattle.heap.proofs.Keeping.{opened_keeps, opened_by}
use Rattle.heap.proofs.TakenBuffers.{opened_target}
use Rattle.heap.proofs.heap.Heap.raw_open_target.Goals as goal

pub invariant_of-self-2 : goal.invariant_of-self-2
invariant_of-self-2 c =
    let h = heap_of c.self.inside in
    let b = c.in-Ok.buffer in
    let w = c.take_target.new.self.words in
    let well = c.in-Ok.ensures.buffers in
    let words = ap (λ k. replicate {A = Bool} k false)
    (ap (λ (x : HeapState). x.store.words) (sym c.self.view_is) ∙ sym well.sized.words) in
    opened_keeps h c.take_target.new.self b _ _ _ _ c.self.invariant well
    (c.open_rows.ensures.starts ∙ opened_by w b h.starts _ (λ z. c.requires.rows.starts ∙ words))
    (c.open_rows.ensures.live ∙ opened_by w b h.live _ (λ z. c.requires.rows.live ∙ words))
    (c.open_rows.ensures.mark ∙ opened_by w b h.mark _ (λ z. c.requires.rows.mark ∙ words))
    (c.open_rows.ensures.todo ∙ opened_by w b h.todo _ (λ z. c.requires.rows.todo ∙ words))

pub returns : goal.returns
returns c =
    let h = heap_of c.self.inside in
    let b = c.in-Ok.buffer in
    let t = c.take_target.new.self in
    let w = t.words in
    let well = c.in-Ok.ensures.buffers in
    let words = ap (λ k. replicate {A = Bool} k false)
    (ap (λ (x : HeapState). x.store.words) (sym c.self.view_is) ∙ sym well.sized.words) in (
      ap (λ (x : HeapState). take_target x.store) (sym c.self.view_is) ∙ c.in-Ok.ensures.takes,
      opened_target h t b _ _ _ _
          (c.open_rows.ensures.starts ∙ opened_by w b h.starts _ (λ z. c.requires.rows.starts ∙ words))
          (c.open_rows.ensures.live ∙ opened_by w b h.live _ (λ z. c.requires.rows.live ∙ words))
          (c.open_rows.ensures.mark ∙ opened_by w b h.mark _ (λ z. c.requires.rows.mark ∙ words))
          (c.open_rows.ensures.todo ∙ opened_by w b h.todo _ (λ z. c.requires.rows.todo ∙ words))
          ∙ ap (λ x. with_target x (t, b)) c.self.view_is,
    )
