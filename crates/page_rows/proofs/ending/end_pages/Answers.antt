use Rattle.std.proofs.Common.{◌≤◌, ◌+◌, ◌∙◌, refl, sym, ap, subst, length, arith}
use Rattle.model.specs.Stores.{StoreState, store_after_mark}
use Rattle.model.specs.Cycles.{is_lent}
use Rattle.page.proofs.Ended.{AreEnded, ended_none, ended_more, ended_step, ended_all, ended_length}
use Rattle.page_rows.proofs.ending.end_pages.Goals as goal

pub loop-index-init : goal.loop-index-init
loop-index-init c = (refl, ended_none c.args.store.now (is_lent c.args.threads.now), refl)

pub end_page-requires : goal.end_page-requires
end_page-requires c = omega (arith, c.loop-index.invariant.2, ap length c.pages-count.ensures, c.loop-index-test.true)

pub loop-index-preserved : goal.loop-index-preserved
loop-index-preserved c =
    let lent = is_lent c.args.threads.now in
    let s = c.loop-index.store in
    let i = c.loop-index.index in (
      ap (store_after_mark lent) c.end_page.ensures ∙ ended_step s lent i c.law.ensures ∙ c.loop-index.invariant.0,
      subst (AreEnded lent (i + 1)) (sym c.end_page.ensures) (ended_more s lent i c.loop-index.invariant.1),
      ap (λ (t : StoreState). length t.pages) c.end_page.ensures ∙ ended_length s i (lent (i + 1))
          ∙ c.loop-index.invariant.2,
    )

pub returns : goal.returns
returns c =
    let lent = is_lent c.args.threads.now in
    let past : length c.loop-index.store.pages ≤ c.loop-index.index =
    omega (arith, c.loop-index.invariant.2, ap length c.pages-count.ensures, c.loop-index-test.false) in
    sym (ended_all c.loop-index.store lent c.loop-index.index c.law-2.ensures past c.loop-index.invariant.1)
    ∙ c.loop-index.invariant.0
