use Rattle.std.proofs.Common.{◌∙◌, ap, count_by, sym}
use Rattle.model.specs.Bits.{of_page}
use Rattle.model.specs.Cycles.{is_uncopied}
use Rattle.relocate.proofs.PageCopies.{none_left}
use Rattle.relocate.proofs.whole.copy_page.Goals as goal

pub returns-then-copied-eq0 : goal.returns-then-copied-eq0
returns-then-copied-eq0 c =
    none_left c.args.heap.now c.args.page c.uncopied_on-copied.result
    (sym c.may_copy_page.ensures ∙ c.in_ok-may_copy_page.was)
    (c.uncopied_on-copied.ensures ∙ ap (λ sides. count_by is_uncopied (of_page sides c.args.page)) c.sides.ensures)
    c.if-copied-eq0.true
