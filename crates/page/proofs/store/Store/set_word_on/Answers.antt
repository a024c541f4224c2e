use Rattle.std.proofs.Common.{◌≡◌, ◌∙◌, ◌/◌, ◌%◌, ◌+◌, Some, cond, sym, subst, ap}
use Rattle.model.specs.Owning.{IsStore}
use Rattle.model.specs.Stores.{StoreState, with_word}
use Rattle.page.specs.Usable.{usable_frame}
use Rattle.page.specs.Views.{store_of}
use Rattle.page.proofs.Runs.{frame_there}
use Rattle.page.proofs.Usable.{usable_framed, usable_set, usable_set_keeps}
use Rattle.page.proofs.store.Store.set_word_on.Goals as goal

pub set_at_once-requires : goal.set_at_once-requires
set_at_once-requires c =
    let s = store_of c.self.inside in
    let a = c.args.number in
    let at = subst (λ (t : StoreState). usable_frame t (a / t.words) ≡ Some c.args.frame) (sym c.self.view_is)
    c.requires.usable in
    frame_there s (a / s.words) c.args.frame c.self.invariant.store (usable_framed s (a / s.words) c.args.frame at)

pub invariant_of-self : goal.invariant_of-self
invariant_of-self c =
    let s = store_of c.self.inside in
    let a = c.args.number in
    let at = subst (λ (t : StoreState). usable_frame t (a / t.words) ≡ Some c.args.frame) (sym c.self.view_is)
    c.requires.usable in
    let o : c.offset_of.result ≡ a % s.words = c.offset_of.ensures
    ∙ ap (λ w. a % w) c.self.invariant.size in
    let e = usable_set s a c.args.ahead c.args.frame c.args.value _ c.set_at_once.result c.set_at_once.new.self
    c.self.invariant.store at (ap (λ x. x + c.args.ahead) o) c.set_at_once.ensures.within c.set_at_once.ensures.value in
    record {
      size = c.self.invariant.size;
      store = subst IsStore (sym e)
          (usable_set_keeps s (a + c.args.ahead) c.args.value c.set_at_once.result c.self.invariant.store);
      free = c.self.invariant.free;
      rooms = c.self.invariant.rooms;
      unused = c.self.invariant.unused;
      spare = c.self.invariant.spare;
      usable = c.self.invariant.usable;
    }

pub returns : goal.returns
returns c =
    let s = store_of c.self.inside in
    let a = c.args.number in
    let at = subst (λ (t : StoreState). usable_frame t (a / t.words) ≡ Some c.args.frame) (sym c.self.view_is)
    c.requires.usable in
    let o : c.offset_of.result ≡ a % s.words = c.offset_of.ensures
    ∙ ap (λ w. a % w) c.self.invariant.size in
    usable_set s a c.args.ahead c.args.frame c.args.value _ c.set_at_once.result c.set_at_once.new.self
    c.self.invariant.store at (ap (λ x. x + c.args.ahead) o) c.set_at_once.ensures.within c.set_at_once.ensures.value
    ∙ ap (λ t. cond c.set_at_once.result (with_word t (a + c.args.ahead) c.args.value) t) c.self.view_is
