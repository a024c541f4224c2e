use Rattle.std.proofs.Common.{◌∙◌, nat_le, position, ap}
use Rattle.model.specs.Stores.{StoreState, free_frame}
use Rattle.page.specs.Views.{store_of}
use Rattle.page.proofs.Found.{free_is, free_some}
use Rattle.page.proofs.Indexes.{free_in_index}
use Rattle.page.proofs.store.Store.free_frame.Goals as goal

pub returns-clause-first : goal.returns-clause-first
returns-clause-first c =
    let s = store_of c.self.inside in
    c.first_at_least.ensures ∙ ap (position (λ v. nat_le 1 v)) c.self.invariant.spare ∙ free_in_index s.owners
    ∙ ap (λ (s : StoreState). free_frame s.owners) c.self.view_is

pub returns-clause-free : goal.returns-clause-free
returns-clause-free c = free_is c.args.self.now.owners c.first_at_least.result (returns-clause-first c)

pub returns-clause-some : goal.returns-clause-some
returns-clause-some c = free_some c.args.self.now.owners c.first_at_least.result (returns-clause-first c)
