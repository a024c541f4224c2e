use Rattle.std.proofs.Common.{inl, inr, sym, ◌∙◌, ap, Some}
use Rattle.model.specs.States.{change_at}
use Rattle.part_scans.specs.Scans.{write_on}
use Rattle.part_scans.specs.Scenes.{marked_in}
use Rattle.part_scans.proofs.Marked.{word_done, word_left}
use Rattle.part_scans.proofs.objects.mark_word.Goals as goal

pub returns-in_default-clause-pages : goal.returns-in_default-clause-pages
returns-in_default-clause-pages c = word_left c.args.scene.now c.args.first c.args.index c.args.offset
    c.args.pages.now c.args.waiting.now.items c.word_of.result c.word_of.ensures (inl c.in_default.is)

pub returns-then-bits-eq0-clause-pages : goal.returns-then-bits-eq0-clause-pages
returns-then-bits-eq0-clause-pages c = word_left c.args.scene.now c.args.first c.args.index c.args.offset
    c.args.pages.now c.args.waiting.now.items c.word_of.result c.word_of.ensures
    (inr (c.in-Some.is ∙ ap Some c.if-bits-eq0.true))

pub returns-clause-pages : goal.returns-clause-pages
returns-clause-pages c = word_done c.args.scene.now c.args.first c.args.index c.args.offset c.in-Some.bits
    c.marked-word.result c.args.pages.now c.set_word.new.pages c.mark_target.new.pages c.args.waiting.now.items
    c.mark_target.new.waiting.items (sym c.in-Some.is ∙ c.word_of.ensures) c.if-bits-eq0.false
    (c.marked-word.ensures ∙ ap (marked_in c.args.scene.now) c.read_reference.ensures)
    (c.set_word.ensures
    ∙ ap (λ b. change_at c.args.pages.now c.args.index (write_on c.args.offset b)) c.bits.ensures.value)
    c.mark_target.ensures.pages
