use Rattle.std.proofs.Common.{◌≡◌, ◌-◌, ◌<◌, length, sym, subst, ap, ◌∙◌}
use Rattle.std.specs.List.{slice_get}
use Rattle.model.specs.declared.records.PageState.TheVariants.{Unused, From}
use Rattle.model.specs.Stores.{state_in, frame_in, with_empty}
use Rattle.model.specs.Moves.{with_released, with_free, set_gone_of}
use Rattle.model.specs.States.{change_at}
use Rattle.page.proofs.Relocated.{used_there}
use Rattle.page.proofs.store.Store.release.Goals as goal

not_unused : From ≡ Unused → ⊥
not_unused e = cc

pub release_at-requires-clause-there : goal.release_at-requires-clause-there
release_at-requires-clause-there c = subst (λ i. i < length c.args.self.now.pages) (sym c.saturating_sub.ensures)
    (used_there c.args.self.now c.args.page From c.requires not_unused).0

pub release_at-requires-clause-from : goal.release_at-requires-clause-from
release_at-requires-clause-from c =
    subst (λ i. state_in (slice_get c.args.self.now.pages i) ≡ From) (sym c.saturating_sub.ensures)
    (used_there c.args.self.now c.args.page From c.requires not_unused).1

pub returns : goal.returns
unfolding with_released
returns c =
    let s = c.args.self.now in
    c.release_at.ensures ∙ ap (λ i. record s {
      pages = change_at s.pages i set_gone_of;
      frames = with_empty s.frames (frame_in (slice_get s.pages i));
      owners = with_free s.owners (frame_in (slice_get s.pages i));
    }) c.saturating_sub.ensures ∙ ap (λ o. record s {
      pages = change_at s.pages (c.args.page - 1) set_gone_of;
      frames = with_empty s.frames (frame_in o);
      owners = with_free s.owners (frame_in o);
    }) (sym (used_there s c.args.page From c.requires not_unused).2)
