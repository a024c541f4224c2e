use Rattle.std.proofs.Common.{ap, sym, subst, ◌∙◌}
use Rattle.std.specs.List.{slice_get}
use Rattle.layout.specs.Objects.{layout_of}
use Rattle.model.specs.Holding.{IsHeap}
use Rattle.model.specs.Owning.{IsStore}
use Rattle.model.specs.States.{HeapState}
use Rattle.model.specs.Stores.{word_at}
use Rattle.model.specs.declared.config.Config.{Config}
use Rattle.viewing.proofs.Finding.{object_found}
use Rattle.viewing.proofs.places.object_at.Goals as goal

pub returns : goal.returns
returns c x = rw (c.birth_of.ensures, c.layout_of-layout.ensures) (object_found c.args.heap.now
    (subst (λ (g : HeapState). IsStore g.store) c.heap-inside.ensures c.law-2.ensures.store)
    (subst IsHeap c.heap-inside.ensures c.law-2.ensures.heap) c.args.address x c.in-Some.header c.in-Some-get.shape
    (sym (c.first_word.ensures ∙ ap (λ s. word_at s c.args.address)
    (c.memory.ensures ∙ ap (λ (g : HeapState). g.store) c.heap-inside.ensures)) ∙ c.in-Some.is)
    (sym (c.get.ensures ∙ ap (slice_get c.config.result.now.layouts) c.layout_of-layout.ensures
    ∙ ap (λ (z : Config). slice_get z.layouts (layout_of c.in-Some.header))
    (c.config.ensures ∙ ap (λ (g : HeapState). g.config) c.heap-inside.ensures)) ∙ c.in-Some-get.is)
    c.law.ensures)
