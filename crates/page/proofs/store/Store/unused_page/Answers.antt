use Rattle.std.proofs.Common.{◌≡◌, true, ◌<◌, ◌∙◌, count_by, is_none, nat_le, position, sym, subst, ap}
use Rattle.std.specs.Prelude.{IfSome}
use Rattle.std.specs.List.{slice_get}
use Rattle.model.specs.Stores.{StoreState, unused_page}
use Rattle.page.specs.Records.{is_unused_in}
use Rattle.page.specs.Views.{store_of}
use Rattle.page.proofs.Found.{unused_is}
use Rattle.page.proofs.Indexes.{unused_in_index}
use Rattle.page.proofs.Keeping.{unused_as}
use Rattle.page.proofs.store.Store.unused_page.Goals as goal

pub returns-clause-first : goal.returns-clause-first
returns-clause-first c =
    let s = store_of c.self.inside in
    let free = subst (λ (s : StoreState). 0 < count_by is_none s.owners) (sym c.self.view_is) c.requires in
    let found = c.first_at_least.ensures ∙ ap (position (λ v. nat_le 1 v)) c.self.invariant.unused
    ∙ unused_in_index s.pages in
    unused_as s c.self.invariant.store free c.first_at_least.result found
    ∙ ap (λ (s : StoreState). unused_page s.count s.pages) c.self.view_is

pub returns-clause-unused : goal.returns-clause-unused
returns-clause-unused c =
    let s = store_of c.self.inside in
    let found = c.first_at_least.ensures ∙ ap (position (λ v. nat_le 1 v)) c.self.invariant.unused
    ∙ unused_in_index s.pages in
    subst (λ (s : StoreState). IfSome c.first_at_least.result (λ i. is_unused_in (slice_get s.pages i) ≡ true))
    c.self.view_is (unused_is s.pages c.first_at_least.result found)
