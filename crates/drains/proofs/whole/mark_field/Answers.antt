use Rattle.std.proofs.Common.{◌+◌, ◌/◌, ◌%◌, ℕ, reverse, Some, sym, ap, ◌∙◌}
use Rattle.model.specs.Scans.{reference_in}
use Rattle.model.specs.Stores.{StoreState, word_at}
use Rattle.drains.proofs.Blanks.{field_of_nothing, field_of_blank}
use Rattle.drains.proofs.Waiting.{field_of_word, field_of_null, written_beside}
use Rattle.drains.proofs.Written.{words_still}
use Rattle.drains.proofs.whole.mark_field.Goals as goal

pub returns-in_default-clause-field : goal.returns-in_default-clause-field
returns-in_default-clause-field c =
    let there = c.word_behind.ensures
    ∙ ap (λ (s : StoreState). word_at s (c.args.address + (1 + c.from-ahead.result))) c.memory.ensures in
    field_of_nothing c.args.heap.now (reverse c.args.waiting.now.items) c.args.address c.args.index c.from-ahead.result
    c.from-ahead.ensures (sym there ∙ c.in_default.is)

pub returns-then-bits-eq0-clause-field : goal.returns-then-bits-eq0-clause-field
returns-then-bits-eq0-clause-field c =
    let there = c.word_behind.ensures
    ∙ ap (λ (s : StoreState). word_at s (c.args.address + (1 + c.from-ahead.result))) c.memory.ensures in
    field_of_blank c.args.heap.now (reverse c.args.waiting.now.items) c.args.address c.args.index c.from-ahead.result
    c.from-ahead.ensures (sym there ∙ c.in-Some.is ∙ ap Some c.if-bits-eq0.true)

pub returns-in_default-addr-clause-field : goal.returns-in_default-addr-clause-field
returns-in_default-addr-clause-field c =
    let there = c.word_behind.ensures
    ∙ ap (λ (s : StoreState). word_at s (c.args.address + (1 + c.from-ahead.result))) c.memory.ensures in
    field_of_null c.args.heap.now c.raw_set_word_behind.new.self (reverse c.args.waiting.now.items) c.args.address
    c.args.index c.from-ahead.result c.bits.result c.read_reference-word.result c.null.result
    c.from-ahead.ensures (c.read_reference-word.ensures ∙ ap reference_in (sym c.in-Some.is ∙ there))
    (sym c.in_default-addr.is ∙ c.addr.ensures.value) c.null.ensures c.bits.ensures.value c.raw_set_word_behind.ensures

pub returns-in_default-addr-clause-waits : goal.returns-in_default-addr-clause-waits
returns-in_default-addr-clause-waits c = written_beside c.args.heap.now c.raw_set_word_behind.new.self c.args.address
    _ _ (reverse c.args.waiting.now.items) c.requires.waits c.raw_set_word_behind.ensures

pub mark-requires-clause-page : goal.mark-requires-clause-page
mark-requires-clause-page c =
    c.page_of-page.ensures ∙ ap (λ (w : ℕ). c.resolve-target.result / w)
    (words_still c.args.heap.now c.raw_set_word_behind-2.new.self c.memory-2.result.now _ _ c.memory-2.ensures
    c.raw_set_word_behind-2.ensures)

pub mark-requires-clause-offset : goal.mark-requires-clause-offset
mark-requires-clause-offset c =
    c.offset_of-offset.ensures ∙ ap (λ (w : ℕ). c.resolve-target.result % w)
    (words_still c.args.heap.now c.raw_set_word_behind-2.new.self c.memory-3.result.now _ _ c.memory-3.ensures
    c.raw_set_word_behind-2.ensures)

pub mark-requires-clause-waits : goal.mark-requires-clause-waits
mark-requires-clause-waits c = written_beside c.args.heap.now c.raw_set_word_behind-2.new.self c.args.address _ _
    (reverse c.args.waiting.now.items) c.requires.waits c.raw_set_word_behind-2.ensures

pub returns-clause-field : goal.returns-clause-field
returns-clause-field c =
    let there = c.word_behind.ensures
    ∙ ap (λ (s : StoreState). word_at s (c.args.address + (1 + c.from-ahead.result))) c.memory.ensures in
    field_of_word c.args.heap.now c.raw_set_word_behind-2.new.self c.mark.new.heap (reverse c.args.waiting.now.items)
    (reverse c.mark.new.waiting.items) c.args.address c.args.index c.from-ahead.result c.in-Some-addr.named
    c.resolve-target.result c.bits-2.result c.read_reference-word.result c.of-marked.result c.nmt.result
    c.from-ahead.ensures (c.read_reference-word.ensures ∙ ap reference_in (sym c.in-Some.is ∙ there))
    (sym c.in-Some-addr.is ∙ c.addr.ensures.value) c.resolve-target.ensures c.nmt.ensures c.of-marked.ensures
    c.bits-2.ensures.value c.raw_set_word_behind-2.ensures c.mark.ensures.marks
