use Rattle.std.proofs.Common.{sym, subst, ap, ◌∙◌}
use Rattle.model.specs.Owning.{LiesIn, AreSized, NoneProtected, row_sizes}
use Rattle.page.proofs.Lying.{words_lie, words_sized_alike, words_unprotected}
use Rattle.page.proofs.RowSizes.{words_rows}
use Rattle.heap.specs.Views.{heap_of}
use Rattle.heap.proofs.Keeping.{store_keeps}
use Rattle.heap.proofs.heap.Heap.raw_set_words_behind.Goals as goal

pub invariant_of-self : goal.invariant_of-self
invariant_of-self c =
    let h = heap_of c.self.inside in
    store_keeps h c.write_on_page.new.store c.self.invariant
    (subst (AreSized h.store) (sym c.write_on_page.ensures) (words_sized_alike h.store c.page_of-page.result _))
    (ap row_sizes c.write_on_page.ensures ∙ words_rows h.store c.page_of-page.result _)
    (λ b lies. subst (λ s. LiesIn s b) (sym c.write_on_page.ensures) (words_lie h.store c.page_of-page.result _ b lies))
    (λ k. subst NoneProtected (sym c.write_on_page.ensures) (words_unprotected h.store c.page_of-page.result _ k))
