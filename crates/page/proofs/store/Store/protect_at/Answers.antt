use Rattle.std.proofs.Common.{◌≡◌, ◌<◌, None, length, refl, sym, subst, ap, ◌∙◌}
use Rattle.std.specs.List.{slice_get}
use Rattle.model.specs.declared.records.Page.{Page}
use Rattle.model.specs.declared.records.PageState.TheVariants.{Closed}
use Rattle.model.specs.Stores.{StoreState, is_unused, state_in}
use Rattle.model.specs.States.{change_at}
use Rattle.model.specs.Protections.{set_from_of}
use Rattle.model.proofs.Lists.{get_read}
use Rattle.page.specs.Relocating.{NoneGone}
use Rattle.page.specs.Views.{store_of, left_in, mark}
use Rattle.page.proofs.Indexes.{kept_mapped}
use Rattle.page.proofs.Relocated.{protect_keeps, changed_there, from_left, from_marked}
use Rattle.page.proofs.Usable.{usable_changed}
use Rattle.page.proofs.store.Store.protect_at.Goals as goal

pub invariant_of-self : goal.invariant_of-self
invariant_of-self c =
    let s = store_of c.self.inside in
    let i = c.args.index in
    let old = c.self.invariant in
    let p = c.index_mut-page.result.now in
    let there = subst (λ (s : StoreState). i < length s.pages) (sym c.self.view_is) c.requires.there in
    let at = get_read s.pages i p there c.index_mut-page.ensures.value in
    let closed = sym (ap state_in at) ∙ subst (λ (s : StoreState). state_in (slice_get s.pages i) ≡ Closed)
    (sym c.self.view_is) c.requires.closed in
    record {
      size = old.size;
      store = protect_keeps s i p old.store at closed (subst NoneGone (sym c.self.view_is) c.requires.kept);
      free = old.free;
      rooms = old.rooms ∙ kept_mapped (left_in s.words) s.pages i p (set_from_of p) at (from_left s.words p closed);
      unused = old.unused ∙ kept_mapped (λ (p : Page). mark (is_unused p.state)) s.pages i p (set_from_of p) at
          (from_marked p closed);
      spare = old.spare;
      usable = usable_changed _ s.pages i (set_from_of p) None old.usable refl;
    }

pub returns : goal.returns
returns c =
    let s = store_of c.self.inside in
    let i = c.args.index in
    let p = c.index_mut-page.result.now in
    let there = subst (λ (s : StoreState). i < length s.pages) (sym c.self.view_is) c.requires.there in
    let at = get_read s.pages i p there c.index_mut-page.ensures.value in
    ap (λ ps. record s { pages = ps }) (changed_there s.pages i set_from_of p at)
    ∙ ap (λ (t : StoreState). record t { pages = change_at t.pages i set_from_of }) c.self.view_is
