use Rattle.std.proofs.Common.{◌≡◌, ◌≤◌, ◌<◌, ◌+◌, ◌-◌, ◌∷◌, None, true, length, set, refl, sym, subst, ap, ◌∙◌}
use Rattle.std.specs.List.{slice_get}
use Rattle.model.specs.declared.records.Page.{Page}
use Rattle.model.specs.Stores.{StoreState, is_open, is_unused, state_in, top_in, give_words}
use Rattle.model.proofs.Lists.{get_read}
use Rattle.page.specs.Usable.{usable_in}
use Rattle.page.specs.Views.{store_of, left_in, mark}
use Rattle.page.proofs.Indexes.{set_mapped, kept_mapped}
use Rattle.page.proofs.Keeping.{raise_keeps, given_at, top_there}
use Rattle.page.proofs.store.Store.give.Goals as goal

pub invariant_of-self : goal.invariant_of-self
invariant_of-self c =
    let s = store_of c.self.inside in
    let i = c.args.index in
    let old = c.self.invariant in
    let p = c.index_mut-page.result.now in
    let q : Page = record p { top = p.top + c.args.n } in
    let room = subst (λ (s : StoreState). top_in (slice_get s.pages i) + c.args.n ≤ s.words)
    (sym c.self.view_is) c.requires.room in
    let there = subst (λ (s : StoreState). i < length s.pages) (sym c.self.view_is) c.requires.there in
    let is_so = subst (λ (s : StoreState). is_open (state_in (slice_get s.pages i)) ≡ true)
    (sym c.self.view_is) c.requires.open in
    let at = get_read s.pages i p there c.index_mut-page.ensures.value in
    let left : s.words - (p.top + c.args.n) ≡ left_in s.words q =
    rw (sym (ap (λ o. is_open (state_in o)) at) ∙ is_so) refl in
    record {
      size = old.size;
      store = raise_keeps s i p _ old.store at (top_there s.pages i c.args.n s.words _ at room);
      free = old.free;
      rooms = c.set.ensures ∙ ap (λ ns. set ns i (s.words - (p.top + c.args.n))) old.rooms
          ∙ set_mapped (left_in s.words) s.pages i q _ left;
      unused = old.unused ∙ kept_mapped (λ (p : Page). mark (is_unused p.state)) s.pages i p q at refl;
      spare = old.spare;
      usable = old.usable ∙ ap (λ us. None ∷ us) (kept_mapped usable_in s.pages i p q at refl);
    }

pub returns : goal.returns
returns c =
    let s = store_of c.self.inside in
    let there = subst (λ (s : StoreState). c.args.index < length s.pages) (sym c.self.view_is) c.requires.there in
    let at = get_read s.pages c.args.index c.index_mut-page.result.now there c.index_mut-page.ensures.value in
    ap (λ t. give_words t c.args.index c.args.n) (sym c.self.view_is)
    ∙ given_at s c.args.index c.args.n c.index_mut-page.result.now at
