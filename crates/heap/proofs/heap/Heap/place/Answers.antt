use Rattle.std.proofs.Common.{◌-◌, ◌≤◌, ◌<◌, ◌∙◌, ap, sym, subst}
use Rattle.model.specs.Owning.{LiesIn, AreSized, NoneProtected, row_sizes}
use Rattle.model.specs.States.{HeapState}
use Rattle.model.specs.Stores.{StoreState}
use Rattle.page.proofs.Lying.{words_lie, words_sized_alike, words_unprotected}
use Rattle.page.proofs.RowSizes.{words_rows}
use Rattle.heap.specs.Views.{heap_of}
use Rattle.heap.proofs.Keeping.{birth_keeps, rest_lies}
use Rattle.heap.proofs.heap.Heap.place.Goals as goal

pub hand_over-requires : goal.hand_over-requires
hand_over-requires c = rest_lies c.args.self.now.store c.args.buffer c.size-size.result c.requires.lies
    (subst (λ n. n ≤ c.args.buffer.end - c.args.buffer.next) (sym c.size-size.ensures.value) c.requires.room)

pub invariant_of-self : goal.invariant_of-self
invariant_of-self c =
    let low = subst (λ (h : HeapState). h.births < h.config.births) (sym (c.self-2.view_is ∙ c.hand_over.ensures))
    c.requires.births in
    birth_keeps (heap_of c.self-2.inside) c.write_new.new.store c.args.buffer c.note_start.new.starts
    c.note_start.new.mark
    c.note_start.new.todo c.self-2.invariant low (subst (AreSized c.self-2.inside.store) (sym c.write_new.ensures)
    (words_sized_alike c.self-2.inside.store c.args.buffer.page _))
    (ap row_sizes c.write_new.ensures ∙ words_rows c.self-2.inside.store c.args.buffer.page _) (λ b lies. subst (λ (s : StoreState). LiesIn s b)
    (sym c.write_new.ensures) (words_lie c.self-2.inside.store c.args.buffer.page _ b lies))
    (λ k. subst NoneProtected (sym c.write_new.ensures)
    (words_unprotected c.self-2.inside.store c.args.buffer.page _ k))
    c.note_start.ensures.starts c.note_start.ensures.mark c.note_start.ensures.todo
