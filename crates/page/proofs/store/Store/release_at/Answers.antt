use Rattle.std.proofs.Common.{◌≡◌, ◌<◌, ◌+◌, ◌∷◌, ℕ, cond, length, set, Option, Some, None, is_none, refl, sym}
use Rattle.std.proofs.Common.{subst, ap, ap₂, ◌∙◌, arith, rules}
use Rattle.std.specs.List.{slice_get}
use Rattle.model.specs.declared.records.Page.{Page}
use Rattle.model.specs.declared.records.PageState.TheVariants.{From}
use Rattle.model.specs.Stores.{StoreState, is_protected, is_unused, state_in, frame_in, with_empty}
use Rattle.model.specs.States.{change_at}
use Rattle.model.specs.Moves.{set_gone_of, with_free}
use Rattle.model.proofs.Lists.{get_read, count_set}
use Rattle.model.specs.Owning.{IsStore}
use Rattle.page.specs.Usable.{usable_in}
use Rattle.page.specs.Views.{store_of, left_in, mark}
use Rattle.page.proofs.Indexes.{set_mapped, kept_mapped, length_index}
use Rattle.page.proofs.Retiring.{frame_within, owners_few, count_few}
use Rattle.page.proofs.Relocated.{release_keeps, changed_there, gone_left, gone_marked, from_framed}
use Rattle.page.proofs.store.Store.release_at.Goals as goal

pub overflow_cast-frame : goal.overflow_cast-frame
overflow_cast-frame c =
    let s = store_of c.self.inside in
    let i = c.args.index in
    let p = c.index-page.result.now in
    let there = subst (λ (s : StoreState). i < length s.pages) (sym c.self.view_is) c.requires.there in
    let at = get_read s.pages i p there c.index-page.ensures in
    let within = frame_within s i c.in-Some.frame p c.self.invariant.store at c.in-Some.is in
    omega (arith, within, owners_few s c.self.invariant.store)

pub overflow_cast-frame-in-Some : goal.overflow_cast-frame-in-Some
overflow_cast-frame-in-Some c =
    let s = store_of c.self.inside in
    let i = c.args.index in
    let p = c.index-page.result.now in
    let there = subst (λ (s : StoreState). i < length s.pages) (sym c.self.view_is) c.requires.there in
    let at = get_read s.pages i p there c.index-page.ensures in
    let within = frame_within s i c.in-Some.frame p c.self.invariant.store at c.in-Some.is in
    omega (arith, within, owners_few s c.self.invariant.store)

pub overflow_cast-frame-in-Some-2 : goal.overflow_cast-frame-in-Some-2
overflow_cast-frame-in-Some-2 c =
    let s = store_of c.self.inside in
    let i = c.args.index in
    let p = c.index-page.result.now in
    let there = subst (λ (s : StoreState). i < length s.pages) (sym c.self.view_is) c.requires.there in
    let at = get_read s.pages i p there c.index-page.ensures in
    let within = frame_within s i c.in-Some.frame p c.self.invariant.store at c.in-Some.is in
    omega (arith, within, owners_few s c.self.invariant.store)

pub empty-requires : goal.empty-requires
empty-requires c =
    let s = store_of c.self.inside in
    let i = c.args.index in
    let p = c.index-page.result.now in
    let there = subst (λ (s : StoreState). i < length s.pages) (sym c.self.view_is) c.requires.there in
    let at = get_read s.pages i p there c.index-page.ensures in
    let within = frame_within s i c.in-Some.frame p c.self.invariant.store at c.in-Some.is in
    omega (arith, within, c.self.invariant.store.sized.owners)

pub set-requires : goal.set-requires
set-requires c =
    let s = store_of c.self.inside in
    let i = c.args.index in
    let p = c.index-page.result.now in
    let there = subst (λ (s : StoreState). i < length s.pages) (sym c.self.view_is) c.requires.there in
    let at = get_read s.pages i p there c.index-page.ensures in
    length_index (λ (o : Option ℕ). mark (is_none o)) s.owners _ c.in-Some.frame c.self.invariant.spare
    (frame_within s i c.in-Some.frame p c.self.invariant.store at c.in-Some.is)

pub overflow_add-self : goal.overflow_add-self
overflow_add-self c =
    let s = store_of c.self.inside in
    omega (arith, c.self.invariant.free, count_few s.owners, owners_few s c.self.invariant.store)

pub index_mut-requires-in-Some : goal.index_mut-requires-in-Some
index_mut-requires-in-Some c =
    let s = store_of c.self.inside in
    let i = c.args.index in
    let p = c.index-page.result.now in
    let there = subst (λ (s : StoreState). i < length s.pages) (sym c.self.view_is) c.requires.there in
    let at = get_read s.pages i p there c.index-page.ensures in
    let within : c.in-Some.frame < length c.self.inside.owners.items =
    frame_within s i c.in-Some.frame p c.self.invariant.store at c.in-Some.is in
    search rules

pub invariant_of-self : goal.invariant_of-self
invariant_of-self c =
    let s = store_of c.self.inside in
    let i = c.args.index in
    let old = c.self.invariant in
    let p = c.index-page.result.now in
    let g = c.in-Some.frame in
    let there = subst (λ (s : StoreState). i < length s.pages) (sym c.self.view_is) c.requires.there in
    let at = get_read s.pages i p there c.index-page.ensures in
    let from = sym (ap state_in at) ∙ subst (λ (s : StoreState). state_in (slice_get s.pages i) ≡ From)
    (sym c.self.view_is) c.requires.from in
    let owns = old.store.owning.owned i g p at c.in-Some.is in
    record {
      size = old.size;
      store = subst (λ fs. IsStore (record s {
        pages = set s.pages i (set_gone_of p);
        frames = fs;
        owners = set s.owners g None;
      })) (sym c.empty.ensures) (release_keeps s i g p old.store at from c.in-Some.is);
      free = omega (arith, old.free, count_set is_none s.owners g (Some (i + 1)) None owns);
      rooms = old.rooms ∙ kept_mapped (left_in s.words) s.pages i p (set_gone_of p) at (gone_left s.words p from);
      unused = old.unused ∙ kept_mapped (λ (p : Page). mark (is_unused p.state)) s.pages i p (set_gone_of p) at
          (gone_marked p from);
      spare = c.set.ensures ∙ ap (λ ns. set ns g 1) old.spare
          ∙ set_mapped (λ (o : Option ℕ). mark (is_none o)) s.owners g None 1 refl;
      usable = old.usable ∙ ap (λ us. None ∷ us) (kept_mapped usable_in s.pages i p (set_gone_of p) at
          (ap (λ st. cond (is_protected st) None p.frame) from));
    }

pub invariant_of-self-in_default : goal.invariant_of-self-in_default
invariant_of-self-in_default c =
    let s = store_of c.self.inside in
    let i = c.args.index in
    let p = c.index-page.result.now in
    let there = subst (λ (s : StoreState). i < length s.pages) (sym c.self.view_is) c.requires.there in
    let at = get_read s.pages i p there c.index-page.ensures in
    let from = sym (ap state_in at) ∙ subst (λ (s : StoreState). state_in (slice_get s.pages i) ≡ From)
    (sym c.self.view_is) c.requires.from in
    absurd (from_framed s i p c.self.invariant.store at from c.in_default.is)

pub returns-in-Some : goal.returns-in-Some
returns-in-Some c =
    let s = store_of c.self.inside in
    let i = c.args.index in
    let p = c.index-page.result.now in
    let there = subst (λ (s : StoreState). i < length s.pages) (sym c.self.view_is) c.requires.there in
    let at = get_read s.pages i p there c.index-page.ensures in
    ap (λ fs. record s {
      pages = set s.pages i (set_gone_of p);
      frames = fs;
      owners = set s.owners c.in-Some.frame None;
    }) c.empty.ensures
    ∙ ap₂ (λ ps o. record s { pages = ps; frames = with_empty s.frames o; owners = with_free s.owners o })
    (changed_there s.pages i set_gone_of p at) (sym (ap frame_in at ∙ c.in-Some.is))
    ∙ ap (λ (t : StoreState). record t {
      pages = change_at t.pages i set_gone_of;
      frames = with_empty t.frames (frame_in (slice_get t.pages i));
      owners = with_free t.owners (frame_in (slice_get t.pages i));
    }) c.self.view_is

pub returns-in_default : goal.returns-in_default
returns-in_default c =
    let s = store_of c.self.inside in
    let i = c.args.index in
    let p = c.index-page.result.now in
    let there = subst (λ (s : StoreState). i < length s.pages) (sym c.self.view_is) c.requires.there in
    let at = get_read s.pages i p there c.index-page.ensures in
    let from = sym (ap state_in at) ∙ subst (λ (s : StoreState). state_in (slice_get s.pages i) ≡ From)
    (sym c.self.view_is) c.requires.from in
    absurd (from_framed s i p c.self.invariant.store at from c.in_default.is)
