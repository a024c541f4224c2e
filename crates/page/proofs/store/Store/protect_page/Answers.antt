use Rattle.std.proofs.Common.{◌≡◌, ◌<◌, length, sym, subst}
use Rattle.std.specs.List.{slice_get}
use Rattle.model.specs.declared.records.PageState.TheVariants.{Unused, Closed}
use Rattle.model.specs.Stores.{state_in}
use Rattle.page.proofs.Relocated.{used_there}
use Rattle.page.proofs.store.Store.protect_page.Goals as goal

not_unused : Closed ≡ Unused → ⊥
not_unused e = cc

pub protect_at-requires-clause-there : goal.protect_at-requires-clause-there
protect_at-requires-clause-there c = subst (λ i. i < length c.args.self.now.pages) (sym c.saturating_sub.ensures)
    (used_there c.args.self.now c.args.page Closed c.requires.closed not_unused).0

pub protect_at-requires-clause-closed : goal.protect_at-requires-clause-closed
protect_at-requires-clause-closed c =
    subst (λ i. state_in (slice_get c.args.self.now.pages i) ≡ Closed) (sym c.saturating_sub.ensures)
    (used_there c.args.self.now c.args.page Closed c.requires.closed not_unused).1
