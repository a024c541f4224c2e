use Rattle.std.proofs.Common.{◌/◌, ◌%◌, ◌∙◌, inl, inr, ap, arith, refl}
use Rattle.part_scans.proofs.Marked.{other_done, own_done}
use Rattle.part_scans.proofs.marks.mark_own.Goals as goal
use Rattle.part_scans.proofs.marks.mark_own.Goals.{then-page-first-via-then-page-first}
use Rattle.part_scans.proofs.marks.mark_own.Goals.{then-page-first-via-else-page-first+then-page-first-2}

pub returns-then-page-first-clause-pages : goal.returns-then-page-first-clause-pages
returns-then-page-first-clause-pages c = other_done c.args.scene.now c.args.first c.args.address c.page_of-page.result
    c.args.pages.now c.args.waiting.now.items
    (c.page_of-page.ensures ∙ ap (λ n. n / c.args.scene.now.words) c.number.ensures.value)
    (elim c.then-page-first.branch [
      | then-page-first-via-then-page-first w ↦ inl w.if-page-first.true
      | then-page-first-via-else-page-first+then-page-first-2 w ↦ inr w.if-page-first-2.true
    ])

pub returns-clause-pages : goal.returns-clause-pages
returns-clause-pages c = own_done c.args.scene.now c.args.first c.args.address c.page_of-page.result
    c.offset_of-offset.result c.mark_page-waits.result c.args.pages.now c.args.waiting.now.items
    _ c.mark_page-waits.new.page c.index-pages-page.result c.mark_page-waits.new.waiting.items
    (c.page_of-page.ensures ∙ ap (λ n. n / c.args.scene.now.words) c.number.ensures.value)
    (omega (arith, c.if-page-first.false)) (omega (arith, c.if-page-first-2.false))
    (c.offset_of-offset.ensures.value ∙ ap (λ n. n % c.args.scene.now.words) c.number-2.ensures.value)
    refl c.mark_page-waits.ensures
