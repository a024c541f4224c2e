use Rattle.std.proofs.Common.{◌+◌, ◌/◌, ◌%◌, ◌∙◌, ℕ, Some, reverse, sym, ap}
use Rattle.model.specs.References.{read_reference}
use Rattle.model.specs.Scans.{reference_in}
use Rattle.model.specs.Stores.{StoreState, word_at}
use Rattle.drains.proofs.Blanks.{field_of_blank}
use Rattle.drains.proofs.Waiting.{field_of_word, written_beside}
use Rattle.drains.proofs.Written.{words_still, written_then}
use Rattle.drains.proofs.whole.mark_field_on.Goals as goal

pub returns-then-bits-eq0-clause-field : goal.returns-then-bits-eq0-clause-field
returns-then-bits-eq0-clause-field c =
    let n = 1 + c.from-ahead.result in
    let there = ap (λ (m : ℕ). word_at c.args.heap.now.store (m + n)) (sym c.number.ensures.value)
    ∙ ap (λ (s : StoreState). word_at s (c.number.result + n)) (sym c.memory.ensures) ∙ c.in-Some.ensures in
    field_of_blank c.args.heap.now (reverse c.args.waiting.now.items) c.args.address c.args.index c.from-ahead.result
    c.from-ahead.ensures (there ∙ ap Some c.if-bits-eq0.true)

pub mark-requires-clause-page : goal.mark-requires-clause-page
mark-requires-clause-page c =
    let h = c.args.heap.now in
    let g = c.raw_set_word_on.new.self in
    c.page_of-page.ensures ∙ ap (λ (w : ℕ). c.in-Some-unmoved.target / w)
    (words_still h g c.memory-2.result.now _ _ c.memory-2.ensures
    (written_then h g _ _ c.raw_set_word_on.result c.raw_set_word_on.ensures c.if-not-raw_set_word_on.false))

pub mark-requires-clause-offset : goal.mark-requires-clause-offset
mark-requires-clause-offset c =
    let h = c.args.heap.now in
    let g = c.raw_set_word_on.new.self in
    c.offset_of-offset.ensures ∙ ap (λ (w : ℕ). c.in-Some-unmoved.target % w)
    (words_still h g c.memory-3.result.now _ _ c.memory-3.ensures
    (written_then h g _ _ c.raw_set_word_on.result c.raw_set_word_on.ensures c.if-not-raw_set_word_on.false))

pub mark-requires-clause-waits : goal.mark-requires-clause-waits
mark-requires-clause-waits c =
    let h = c.args.heap.now in
    let g = c.raw_set_word_on.new.self in
    written_beside h g c.args.address _ _ (reverse c.args.waiting.now.items) c.requires.waits
    (written_then h g _ _ c.raw_set_word_on.result c.raw_set_word_on.ensures c.if-not-raw_set_word_on.false)

pub returns-clause-field : goal.returns-clause-field
returns-clause-field c =
    let h = c.args.heap.now in
    let g = c.raw_set_word_on.new.self in
    let n = 1 + c.from-ahead.result in
    let there = ap (λ (m : ℕ). word_at h.store (m + n)) (sym c.number.ensures.value)
    ∙ ap (λ (s : StoreState). word_at s (c.number.result + n)) (sym c.memory.ensures) ∙ c.in-Some.ensures in
    field_of_word h g c.mark.new.heap (reverse c.args.waiting.now.items) (reverse c.mark.new.waiting.items)
    c.args.address c.args.index c.from-ahead.result c.in-Some-unmoved.target c.in-Some-unmoved.target c.bits.result
    (read_reference c.in-Some.bits) c.of-marked.result c.nmt.result c.from-ahead.ensures
    (ap reference_in (sym there)) (sym c.in-Some-unmoved.ensures.named) (sym c.in-Some-unmoved.ensures.unmoved)
    c.nmt.ensures c.of-marked.ensures c.bits.ensures.value
    (written_then h g _ _ c.raw_set_word_on.result c.raw_set_word_on.ensures c.if-not-raw_set_word_on.false)
    c.mark.ensures.marks
