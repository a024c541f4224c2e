use Rattle.std.proofs.Common.{◌≡◌, ◌-◌, ◌∙◌, count_by, is_some, ap, arith}
use Rattle.model.specs.Stores.{StoreState}
use Rattle.page.proofs.Found.{count_owned}
use Rattle.page.proofs.store.Store.used_frames.Goals as goal

pub returns : goal.returns
returns c =
    let owners = c.self.inside.owners.items in
    let used : c.len.result - c.self.inside.free ≡ count_by is_some owners =
    omega (arith, c.len.ensures, c.self.invariant.free, c.self.invariant.store.sized.owners, count_owned owners) in
    used ∙ ap (λ (s : StoreState). count_by is_some s.owners) c.self.view_is
