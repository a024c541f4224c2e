use Rattle.std.proofs.Common.{◌+◌, ◌*◌, sym, subst, ap, ◌∙◌}
use Rattle.refword.specs.Words.{IsAddress}
use Rattle.model.specs.States.{HeapState}
use Rattle.model.specs.Owning.{LiesIn}
use Rattle.page.proofs.Lying.{buffer_address}
use Rattle.heap.proofs.Writing.{address_found}
use Rattle.heap.proofs.heap.Heap.buffer_address.Goals as goal

pub unwrap-requires : goal.unwrap-requires
unwrap-requires c =
    let lies = subst (λ (h : HeapState). LiesIn h.store c.args.buffer) (sym c.self.view_is) c.requires.lies in
    let is = buffer_address c.self.inside.store c.args.buffer c.law.ensures lies c.requires.room in
    let words = c.from-words.ensures ∙ c.page_words.ensures.value in
    address_found c.new.result _ c.new.ensures.within
    (subst IsAddress (ap (λ n. n * c.self.inside.store.words + c.args.buffer.next) (sym c.from-page.ensures)
    ∙ ap (λ n. c.from-page.result * n + c.args.buffer.next) (sym words)
    ∙ ap (λ n. c.from-page.result * c.from-words.result + n) (sym c.from.ensures)) is)
