use Rattle.std.proofs.Common.{◌≡◌, ◌<◌, ◌∷◌, None, true, false, length, set, refl, sym, subst, ap, ◌∙◌}
use Rattle.std.specs.List.{slice_get}
use Rattle.model.specs.declared.records.Page.{Page}
use Rattle.model.specs.Stores.{StoreState, is_open, is_unused, state_in}
use Rattle.model.proofs.Lists.{get_read}
use Rattle.page.specs.Ending.{with_mark_ended_at}
use Rattle.page.specs.Usable.{usable_in}
use Rattle.page.specs.Views.{store_of, left_in, mark}
use Rattle.page.proofs.Indexes.{set_mapped, kept_mapped}
use Rattle.page.proofs.Retiring.{closed_page, close_keeps, closed_marked, closed_at}
use Rattle.page.proofs.Usable.{usable_closed}
use Rattle.page.proofs.store.Store.close.Goals as goal

pub invariant_of-self : goal.invariant_of-self
invariant_of-self c =
    let s = store_of c.self.inside in
    let i = c.args.index in
    let old = c.self.invariant in
    let p = c.index_mut-page.result.now in
    let there = subst (λ (s : StoreState). i < length s.pages) (sym c.self.view_is) c.requires.there in
    let is_so = subst (λ (s : StoreState). is_open (state_in (slice_get s.pages i)) ≡ true)
    (sym c.self.view_is) c.requires.open in
    let at = get_read s.pages i p there c.index_mut-page.ensures.value in
    let open_before = sym (ap (λ o. is_open (state_in o)) at) ∙ is_so in
    record {
      size = old.size;
      store = close_keeps s i p old.store at open_before;
      free = old.free;
      rooms = c.set.ensures ∙ ap (λ ns. set ns i 0) old.rooms
          ∙ set_mapped (left_in s.words) s.pages i (closed_page p) 0 refl;
      unused = old.unused ∙ kept_mapped (λ (p : Page). mark (is_unused p.state)) s.pages i p (closed_page p) at
          (ap mark (closed_marked p open_before));
      spare = old.spare;
      usable = old.usable ∙ ap (λ us. None ∷ us) (kept_mapped usable_in s.pages i p (closed_page p) at
          (usable_closed p open_before));
    }

pub returns : goal.returns
returns c =
    let s = store_of c.self.inside in
    let i = c.args.index in
    let p = c.index_mut-page.result.now in
    let there = subst (λ (s : StoreState). i < length s.pages) (sym c.self.view_is) c.requires.there in
    let is_so = subst (λ (s : StoreState). is_open (state_in (slice_get s.pages i)) ≡ true)
    (sym c.self.view_is) c.requires.open in
    let at = get_read s.pages i p there c.index_mut-page.ensures.value in
    let open_before = sym (ap (λ o. is_open (state_in o)) at) ∙ is_so in
    closed_at s i p at open_before ∙ ap (λ t. with_mark_ended_at t i false) c.self.view_is
