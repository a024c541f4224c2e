use Rattle.std.proofs.Common.{◌∙◌, ◌/◌, ◌<◌, ◌≤◌, length, ap, arith, subst, sym}
use Rattle.page.specs.Usable.{usable_frame}
use Rattle.page.specs.Views.{store_of}
use Rattle.model.specs.Stores.{StoreState}
use Rattle.page.proofs.Usable.{found_some, usable_all}
use Rattle.page.proofs.store.Store.recorded_usable_frame.Goals as goal

pub returns-clause-value : goal.returns-clause-value
returns-clause-value c =
    let s = store_of c.self.inside in
    let us = c.self.inside.usable.items in
    let recorded = subst (λ (t : StoreState). c.args.number / t.words ≤ length t.pages) (sym c.self.view_is) c.requires in
    let page = c.page_of.ensures ∙ ap (λ w. c.args.number / w) c.self.invariant.size in
    let low : c.page_of.result < length us =
    omega (arith, page, recorded, usable_all us s.pages c.self.invariant.usable) in
    found_some s us c.page_of.result c.index.result.now c.self.invariant.usable low c.index.ensures
    ∙ ap (usable_frame s) page ∙ ap (λ (t : StoreState). usable_frame t (c.args.number / t.words)) c.self.view_is
