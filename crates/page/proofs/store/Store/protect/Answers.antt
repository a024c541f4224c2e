use Rattle.std.proofs.Common.{◌≡◌, ◌-◌, ◌∙◌, arith, ap, sym, subst, take, get_or}
use Rattle.std.proofs.lemmas.List.{take_all}
use Rattle.model.specs.Owning.{LiesIn}
use Rattle.model.specs.Protections.{set_from_of, with_from_pages}
use Rattle.model.specs.States.{change_at}
use Rattle.model.specs.Stores.{StoreState}
use Rattle.model.specs.Stores.{state_at}
use Rattle.model.specs.declared.records.PageState.TheVariants.{Closed}
use Rattle.page.specs.Relocating.{NoneGone}
use Rattle.page.proofs.Protecting.{read_there, still_closed, still_none_gone, protected_more, protected_lies}
use Rattle.page.proofs.store.Store.protect.Goals as goal

pub protect_page-requires-clause-closed : goal.protect_page-requires-clause-closed
protect_page-requires-clause-closed c =
    let ns = c.args.pages.now in
    let i = c.loop-index.index in
    subst (λ (s : StoreState). state_at s (get_or ns i 0) ≡ Closed) (sym c.loop-index.invariant)
    (still_closed c.args.self.now ns i (get_or ns i 0) c.requires.closed c.requires.once
    (read_there ns i c.loop-index-test.true))

pub protect_page-requires-clause-kept : goal.protect_page-requires-clause-kept
protect_page-requires-clause-kept c = subst NoneGone (sym c.loop-index.invariant)
    (still_none_gone c.args.self.now (take c.loop-index.index c.args.pages.now) c.requires.kept)

pub loop-index-preserved : goal.loop-index-preserved
loop-index-preserved c =
    let ns = c.args.pages.now in
    let i = c.loop-index.index in
    c.protect_page.ensures
    ∙ ap (λ (s : StoreState). record s { pages = change_at s.pages (get_or ns i 0 - 1) set_from_of })
    c.loop-index.invariant
    ∙ protected_more c.args.self.now ns i (get_or ns i 0) (read_there ns i c.loop-index-test.true)

pub returns-clause-pages : goal.returns-clause-pages
returns-clause-pages c =
    let ns = c.args.pages.now in
    c.loop-index.invariant
    ∙ ap (λ ms. record c.args.self.now { pages = with_from_pages ms c.args.self.now.pages })
    (take_all c.loop-index.index ns (omega (arith, c.loop-index-test.false)))

pub returns-clause-stays : goal.returns-clause-stays
returns-clause-stays c b lies =
    let ns = c.args.pages.now in
    let all = take_all c.loop-index.index ns (omega (arith, c.loop-index-test.false)) in
    subst (λ (s : StoreState). LiesIn s b) (sym (c.loop-index.invariant
    ∙ ap (λ ms. record c.args.self.now { pages = with_from_pages ms c.args.self.now.pages }) all))
    (protected_lies c.args.self.now ns b c.requires.closed lies)
