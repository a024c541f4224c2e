use Rattle.std.proofs.Common.{ℕ, Option, Some, ◌∙◌, sym, ap, subst}
use Rattle.std.specs.Prelude.{◌≡◌, IfSome}
use Rattle.model.specs.Data.{layout_in, header_layout}
use Rattle.model.specs.Plans.{words_of}
use Rattle.model.specs.Stores.{words_at}
use Rattle.heap.proofs.Sizes.{size_in}
use Rattle.heap.proofs.heap.Heap.object_words_on.Goals as goal

pub returns-in-Some-clause-value : goal.returns-in-Some-clause-value
returns-in-Some-clause-value c =
    let h = c.args.self.now in
    c.header_words.ensures.value
    ∙ ap (λ (v : Option ℕ). words_of (layout_in h.config.layouts (header_layout v))) c.word_in.ensures
    ∙ sym (size_in h c.args.page c.args.offset c.in-Some.words.now c.requires.within
    (subst (λ o. IfSome o (λ ws. words_at h.store c.args.page ≡ Some ws.now)) c.in-Some.is c.requires.words))
