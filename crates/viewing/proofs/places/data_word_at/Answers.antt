use Rattle.std.proofs.Common.{ap, sym, subst, ◌+◌, ◌∙◌}
use Rattle.std.specs.Option.{option_map}
use Rattle.model.specs.Data.{datum_at}
use Rattle.model.specs.Holding.{IsHeap}
use Rattle.model.specs.Owning.{IsStore}
use Rattle.model.specs.States.{HeapState}
use Rattle.model.specs.Stores.{word_at}
use Rattle.viewing.proofs.Finding.{datum_found}
use Rattle.viewing.proofs.places.data_word_at.Goals as goal

pub returns : goal.returns
returns c x = datum_found c.args.heap.now
    (subst (λ (g : HeapState). IsStore g.store) c.heap-inside.ensures c.law-2.ensures.store)
    (subst IsHeap c.heap-inside.ensures c.law-2.ensures.heap) c.args.address x c.args.index c.in-Some.ahead
    c.in-Some-word_behind.value
    (sym (c.datum_ahead.ensures.value ∙ ap (λ g. datum_at g c.args.address c.args.index) c.heap-inside.ensures)
    ∙ ap (option_map (λ k. c.args.address + k)) c.in-Some.is)
    (sym (c.word_behind.ensures ∙ ap (λ s. word_at s (c.args.address + c.in-Some.ahead))
    (c.memory.ensures ∙ ap (λ (g : HeapState). g.store) c.heap-inside.ensures)) ∙ c.in-Some-word_behind.is)
