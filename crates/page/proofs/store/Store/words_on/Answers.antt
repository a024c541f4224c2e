use Rattle.std.proofs.Common.{◌≡◌, ◌/◌, Some, sym, subst}
use Rattle.std.specs.Prelude.{IfSome}
use Rattle.model.specs.Stores.{StoreState, words_at}
use Rattle.page.specs.Usable.{usable_frame}
use Rattle.page.specs.Views.{store_of}
use Rattle.page.proofs.Runs.{frame_there}
use Rattle.page.proofs.Usable.{usable_framed, usable_words}
use Rattle.page.proofs.store.Store.words_on.Goals as goal

pub words_at_once-requires : goal.words_at_once-requires
words_at_once-requires c =
    let s = store_of c.self.inside in
    let n = c.args.number / s.words in
    let at = subst (λ (t : StoreState). usable_frame t (c.args.number / t.words) ≡ Some c.args.frame)
    (sym c.self.view_is) c.requires in
    frame_there s n c.args.frame c.self.invariant.store (usable_framed s n c.args.frame at)

pub returns : goal.returns
returns c =
    let s = store_of c.self.inside in
    let n = c.args.number / s.words in
    let at = subst (λ (t : StoreState). usable_frame t (c.args.number / t.words) ≡ Some c.args.frame)
    (sym c.self.view_is) c.requires in
    subst (λ (t : StoreState). IfSome c.words_at_once.result (λ ws. words_at t (c.args.number / t.words) ≡ Some ws.now))
    c.self.view_is (usable_words (λ ws. ws.now) s n c.args.frame c.words_at_once.result at c.words_at_once.ensures)
