use Rattle.std.proofs.Common.{◌∙◌, refl, sym}
use Rattle.relocate.proofs.PageCopies.{refused}
use Rattle.relocate.proofs.whole.copy_page_by.Goals as goal

pub returns-in-Err : goal.returns-in-Err
returns-in-Err g c =
    (refused c.args.heap.now c.args.page c.in-Err.refusal (sym c.may_copy_page.ensures ∙ c.in-Err.is), refl)
