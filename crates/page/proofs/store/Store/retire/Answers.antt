use Rattle.std.proofs.Common.{◌≡◌, ◌<◌, ◌+◌, ◌∷◌, ℕ, cond, true, false, length, set, Option, Some, None, is_none, refl, sym}
use Rattle.std.proofs.Common.{subst, ap, ◌∙◌, arith, rules}
use Rattle.std.specs.List.{slice_get}
use Rattle.model.specs.declared.records.Page.{Page}
use Rattle.model.specs.Stores.{StoreState, is_protected, is_unused, state_in}
use Rattle.model.proofs.Lists.{get_read, count_set}
use Rattle.model.specs.Owning.{IsStore}
use Rattle.page.specs.Ending.{with_mark_ended_at}
use Rattle.page.specs.Usable.{usable_in}
use Rattle.page.specs.Views.{store_of, left_in, mark}
use Rattle.page.proofs.Indexes.{set_mapped, kept_mapped, length_index}
use Rattle.page.proofs.Retiring.{retired_page, retire_gone_keeps, retire_from_keeps, retired_gone_at, retired_from_at}
use Rattle.page.proofs.Retiring.{frame_within, owners_few, count_few, protected_left}
use Rattle.page.proofs.store.Store.retire.Goals as goal

pub overflow_cast-frame : goal.overflow_cast-frame
overflow_cast-frame c =
    let s = store_of c.self.inside in
    let i = c.args.index in
    let p = c.index-page.result.now in
    let there = subst (λ (s : StoreState). i < length s.pages) (sym c.self.view_is) c.requires.there in
    let at = get_read s.pages i p there c.index-page.ensures in
    let within = frame_within s i c.in-Some.frame p c.self.invariant.store at c.in-Some.is in
    omega (arith, within, owners_few s c.self.invariant.store)

pub overflow_cast-frame-in-Some : goal.overflow_cast-frame-in-Some
overflow_cast-frame-in-Some c =
    let s = store_of c.self.inside in
    let i = c.args.index in
    let p = c.index-page.result.now in
    let there = subst (λ (s : StoreState). i < length s.pages) (sym c.self.view_is) c.requires.there in
    let at = get_read s.pages i p there c.index-page.ensures in
    let within = frame_within s i c.in-Some.frame p c.self.invariant.store at c.in-Some.is in
    omega (arith, within, owners_few s c.self.invariant.store)

pub overflow_cast-frame-in-Some-2 : goal.overflow_cast-frame-in-Some-2
overflow_cast-frame-in-Some-2 c =
    let s = store_of c.self.inside in
    let i = c.args.index in
    let p = c.index-page.result.now in
    let there = subst (λ (s : StoreState). i < length s.pages) (sym c.self.view_is) c.requires.there in
    let at = get_read s.pages i p there c.index-page.ensures in
    let within = frame_within s i c.in-Some.frame p c.self.invariant.store at c.in-Some.is in
    omega (arith, within, owners_few s c.self.invariant.store)

pub empty-requires : goal.empty-requires
empty-requires c =
    let s = store_of c.self.inside in
    let i = c.args.index in
    let p = c.index-page.result.now in
    let there = subst (λ (s : StoreState). i < length s.pages) (sym c.self.view_is) c.requires.there in
    let at = get_read s.pages i p there c.index-page.ensures in
    let within = frame_within s i c.in-Some.frame p c.self.invariant.store at c.in-Some.is in
    omega (arith, within, c.self.invariant.store.sized.owners)

pub set-requires-in-Some : goal.set-requires-in-Some
set-requires-in-Some c =
    let s = store_of c.self.inside in
    let i = c.args.index in
    let p = c.index-page.result.now in
    let there = subst (λ (s : StoreState). i < length s.pages) (sym c.self.view_is) c.requires.there in
    let at = get_read s.pages i p there c.index-page.ensures in
    length_index (λ (o : Option ℕ). mark (is_none o)) s.owners _ c.in-Some.frame c.self.invariant.spare
    (frame_within s i c.in-Some.frame p c.self.invariant.store at c.in-Some.is)

pub overflow_add-self : goal.overflow_add-self
overflow_add-self c =
    let s = store_of c.self.inside in
    omega (arith, c.self.invariant.free, count_few s.owners, owners_few s c.self.invariant.store)

pub invariant_of-self : goal.invariant_of-self
invariant_of-self c =
    let s = store_of c.self.inside in
    let i = c.args.index in
    let old = c.self.invariant in
    let p = c.index-page.result.now in
    let g = c.in-Some.frame in
    let there = subst (λ (s : StoreState). i < length s.pages) (sym c.self.view_is) c.requires.there in
    let at = get_read s.pages i p there c.index-page.ensures in
    let is_so = subst (λ (s : StoreState). is_protected (state_in (slice_get s.pages i)) ≡ true)
    (sym c.self.view_is) c.requires.protected in
    let before = sym (ap (λ o. is_protected (state_in o)) at) ∙ is_so in
    let owns = old.store.owning.owned i g p at c.in-Some.is in
    record {
      size = old.size;
      store = subst (λ fs. IsStore (record s {
        pages = set s.pages i (retired_page p);
        frames = fs;
        owners = set s.owners g None;
      })) (sym c.empty.ensures) (retire_from_keeps s i g p old.store at c.in-Some.is before);
      free = omega (arith, old.free, count_set is_none s.owners g (Some (i + 1)) None owns);
      rooms = old.rooms
          ∙ kept_mapped (left_in s.words) s.pages i p (retired_page p) at (protected_left s.words p before);
      unused = c.set.ensures ∙ ap (λ ns. set ns i 1) old.unused
          ∙ set_mapped (λ (p : Page). mark (is_unused p.state)) s.pages i (retired_page p) 1 refl;
      spare = c.set-in-Some.ensures ∙ ap (λ ns. set ns g 1) old.spare
          ∙ set_mapped (λ (o : Option ℕ). mark (is_none o)) s.owners g None 1 refl;
      usable = old.usable ∙ ap (λ us. None ∷ us) (kept_mapped usable_in s.pages i p (retired_page p) at
          (ap (λ b. cond b None p.frame) before));
    }

pub invariant_of-self-in_default : goal.invariant_of-self-in_default
invariant_of-self-in_default c =
    let s = store_of c.self.inside in
    let i = c.args.index in
    let old = c.self.invariant in
    let p = c.index-page.result.now in
    let there = subst (λ (s : StoreState). i < length s.pages) (sym c.self.view_is) c.requires.there in
    let at = get_read s.pages i p there c.index-page.ensures in
    let is_so = subst (λ (s : StoreState). is_protected (state_in (slice_get s.pages i)) ≡ true)
    (sym c.self.view_is) c.requires.protected in
    let before = sym (ap (λ o. is_protected (state_in o)) at) ∙ is_so in
    record {
      size = old.size;
      store = retire_gone_keeps s i p old.store at c.in_default.is before;
      free = old.free;
      rooms = old.rooms
          ∙ kept_mapped (left_in s.words) s.pages i p (retired_page p) at (protected_left s.words p before);
      unused = c.set.ensures ∙ ap (λ ns. set ns i 1) old.unused
          ∙ set_mapped (λ (p : Page). mark (is_unused p.state)) s.pages i (retired_page p) 1 refl;
      spare = old.spare;
      usable = old.usable ∙ ap (λ us. None ∷ us) (kept_mapped usable_in s.pages i p (retired_page p) at
          (ap (λ b. cond b None p.frame) before));
    }

pub returns-in-Some : goal.returns-in-Some
returns-in-Some c =
    let s = store_of c.self.inside in
    let i = c.args.index in
    let p = c.index-page.result.now in
    let there = subst (λ (s : StoreState). i < length s.pages) (sym c.self.view_is) c.requires.there in
    let at = get_read s.pages i p there c.index-page.ensures in
    let is_so = subst (λ (s : StoreState). is_protected (state_in (slice_get s.pages i)) ≡ true)
    (sym c.self.view_is) c.requires.protected in
    let before = sym (ap (λ o. is_protected (state_in o)) at) ∙ is_so in
    ap (λ fs. record s {
      pages = set s.pages i (retired_page p);
      frames = fs;
      owners = set s.owners c.in-Some.frame None;
    }) c.empty.ensures ∙ retired_from_at s i c.in-Some.frame false p at c.in-Some.is before
    ∙ ap (λ t. with_mark_ended_at t i false) c.self.view_is

pub returns-in_default : goal.returns-in_default
returns-in_default c =
    let s = store_of c.self.inside in
    let i = c.args.index in
    let p = c.index-page.result.now in
    let there = subst (λ (s : StoreState). i < length s.pages) (sym c.self.view_is) c.requires.there in
    let at = get_read s.pages i p there c.index-page.ensures in
    let is_so = subst (λ (s : StoreState). is_protected (state_in (slice_get s.pages i)) ≡ true)
    (sym c.self.view_is) c.requires.protected in
    let before = sym (ap (λ o. is_protected (state_in o)) at) ∙ is_so in
    retired_gone_at s i false p at c.in_default.is before ∙ ap (λ t. with_mark_ended_at t i false) c.self.view_is

pub index_mut-requires-in-Some : goal.index_mut-requires-in-Some
index_mut-requires-in-Some c =
    let s = store_of c.self.inside in
    let i = c.args.index in
    let p = c.index-page.result.now in
    let there = subst (λ (s : StoreState). i < length s.pages) (sym c.self.view_is) c.requires.there in
    let at = get_read s.pages i p there c.index-page.ensures in
    let within : c.in-Some.frame < length c.self.inside.owners.items =
    frame_within s i c.in-Some.frame p c.self.invariant.store at c.in-Some.is in
    search rules
