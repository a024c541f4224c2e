use Rattle.std.proofs.Common.{sym, subst, ap, ◌∙◌, ◌+◌}
use Rattle.model.specs.Owning.{LiesIn, AreSized, NoneProtected, row_sizes}
use Rattle.page.proofs.Lying.{word_lies, word_sized_alike, word_unprotected}
use Rattle.page.proofs.RowSizes.{word_rows}
use Rattle.heap.specs.Views.{heap_of}
use Rattle.heap.proofs.Keeping.{store_keeps}
use Rattle.heap.proofs.heap.Heap.raw_set_word_behind.Goals as goal

pub invariant_of-self : goal.invariant_of-self
invariant_of-self c =
    let h = heap_of c.self.inside in
    let sized = subst (AreSized h.store) (sym c.set_word_behind.ensures)
    (word_sized_alike h.store (c.args.address + c.args.ahead) c.args.value) in
    store_keeps h c.set_word_behind.new.self c.self.invariant sized
    (ap row_sizes c.set_word_behind.ensures ∙ word_rows h.store (c.args.address + c.args.ahead) c.args.value)
    (λ b lies. subst (λ s. LiesIn s b) (sym c.set_word_behind.ensures)
    (word_lies h.store (c.args.address + c.args.ahead) c.args.value b lies))
    (λ k. subst NoneProtected (sym c.set_word_behind.ensures)
    (word_unprotected h.store (c.args.address + c.args.ahead) c.args.value k))
