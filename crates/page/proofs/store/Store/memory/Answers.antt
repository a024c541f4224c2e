use Rattle.std.proofs.Common.{◌<◌, ◌∙◌, length, sym, ap, subst}
use Rattle.model.specs.Stores.{StoreState, page_at, frame_in}
use Rattle.page.specs.Views.{store_of}
use Rattle.page.proofs.Runs.{frame_there}
use Rattle.page.proofs.store.Store.memory.Goals as goal

pub returns-clause-there : goal.returns-clause-there
returns-clause-there c =
    subst (λ (s : StoreState). c.unwrap.result < length s.frames) c.self.view_is
    (frame_there (store_of c.self.inside) c.args.page c.unwrap.result c.self.invariant.store
    (ap (λ (s : StoreState). frame_in (page_at s c.args.page)) c.self.view_is ∙ sym c.recorded_frame.ensures
    ∙ c.unwrap.ensures))
