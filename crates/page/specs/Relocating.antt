-- Pages that are protected and released.
use Rattle.std.specs.Prelude.{◌≢◌}
use Rattle.model.specs.declared.records.PageState.TheVariants.{Gone}
use Rattle.model.specs.Stores.{StoreState}
use Rattle.model.specs.Owning.{Each}

-- no page is Gone
abbrev pub NoneGone : StoreState → Type 0
NoneGone s = Each s.pages (λ p. p.state ≢ Gone)
