use Rattle.std.proofs.Common.{◌≡◌, ◌∙◌, ◌/◌, ◌%◌, ◌+◌, Some, sym, subst, ap}
use Rattle.std.specs.Prelude.{IfSome}
use Rattle.model.specs.Stores.{StoreState, word_at}
use Rattle.page.specs.Usable.{usable_frame}
use Rattle.page.specs.Views.{store_of}
use Rattle.page.proofs.Runs.{frame_there}
use Rattle.page.proofs.Usable.{usable_framed, usable_read}
use Rattle.page.proofs.store.Store.word_on.Goals as goal

pub word_at_once-requires : goal.word_at_once-requires
word_at_once-requires c =
    let s = store_of c.self.inside in
    let a = c.args.number in
    let at = subst (λ (t : StoreState). usable_frame t (a / t.words) ≡ Some c.args.frame) (sym c.self.view_is)
    c.requires.usable in
    frame_there s (a / s.words) c.args.frame c.self.invariant.store (usable_framed s (a / s.words) c.args.frame at)

pub returns : goal.returns
returns c =
    let s = store_of c.self.inside in
    let a = c.args.number in
    let at = subst (λ (t : StoreState). usable_frame t (a / t.words) ≡ Some c.args.frame) (sym c.self.view_is)
    c.requires.usable in
    let o : c.offset_of.result ≡ a % s.words = c.offset_of.ensures
    ∙ ap (λ w. a % w) c.self.invariant.size in
    subst (λ (t : StoreState). IfSome c.word_at_once.result (λ v. word_at t (a + c.args.ahead) ≡ Some v)) c.self.view_is
    (usable_read s a c.args.ahead c.args.frame c.offset_of.result c.word_at_once.result c.self.invariant.store at o
    c.word_at_once.ensures)
