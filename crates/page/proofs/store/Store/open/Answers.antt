use Rattle.std.proofs.Common.{◌≡◌, ℕ, ◌<◌, ◌+◌, ◌∙◌, length, set, is_none, Option}
use Rattle.std.proofs.Common.{None, Some, replicate, sym, subst, ap, refl, arith, true}
use Rattle.std.specs.List.{slice_get}
use Rattle.model.specs.declared.records.Page.{Page}
use Rattle.model.specs.Stores.{StoreState, open_fresh, is_unused, fresh_page}
use Rattle.model.proofs.Lists.{count_positive, count_set}
use Rattle.model.specs.Owning.{IsStore}
use Rattle.page.specs.Views.{store_of, left_in, mark}
use Rattle.page.proofs.Indexes.{set_mapped}
use Rattle.page.specs.Records.{is_unused_in}
use Rattle.page.proofs.Keeping.{opened_with, opened_as}
use Rattle.page.proofs.Usable.{usable_changed}
use Rattle.page.proofs.store.Store.open.Goals as goal

pub overflow_sub-self : goal.overflow_sub-self
overflow_sub-self c =
    let free =
    subst (λ (s : StoreState). slice_get s.owners c.args.frame ≡ Some None) (sym c.self.view_is) c.requires.free in
    omega (arith, c.self.invariant.free, count_positive is_none c.self.inside.owners.items c.args.frame None free refl)

pub invariant_of-self : goal.invariant_of-self
invariant_of-self c =
    let s = store_of c.self.inside in
    let free =
    subst (λ (s : StoreState). slice_get s.owners c.args.frame ≡ Some None) (sym c.self.view_is) c.requires.free in
    let unused = subst (λ (s : StoreState). is_unused_in (slice_get s.pages c.args.index) ≡ true)
    (sym c.self.view_is) c.requires.unused in
    let page = subst (λ (s : StoreState). c.args.index < length s.pages) (sym c.self.view_is) c.requires.page_there in
    let owner =
    subst (λ (s : StoreState). c.args.frame < length s.owners) (sym c.self.view_is) c.requires.frame_there in
    let zeros : c.args.memory ≡ replicate s.words 0 =
    c.requires.blank ∙ ap (λ (t : StoreState). replicate t.words 0) (sym c.self.view_is) in
    record {
      size = c.self.invariant.size;
      store = subst (λ fs. IsStore (record s {
        pages = set s.pages c.args.index (fresh_page c.args.frame);
        frames = fs;
        owners = set s.owners c.args.frame (Some (c.args.index + 1));
      })) (sym c.place.ensures)
          (opened_with s c.args.index c.args.frame c.args.memory c.self.invariant.store page unused free zeros);
      free = omega (
        arith,
        c.self.invariant.free,
        count_set is_none s.owners c.args.frame None (Some (c.args.index + 1)) free,
      );
      rooms = c.set.ensures ∙ ap (λ ns. set ns c.args.index s.words) c.self.invariant.rooms
          ∙ set_mapped (left_in s.words) s.pages c.args.index (fresh_page c.args.frame) s.words (omega arith);
      unused = c.set-2.ensures ∙ ap (λ ns. set ns c.args.index 0) c.self.invariant.unused
          ∙ set_mapped (λ (p : Page). mark (is_unused p.state)) s.pages c.args.index (fresh_page c.args.frame) 0 refl;
      spare = c.set-3.ensures ∙ ap (λ ns. set ns c.args.frame 0) c.self.invariant.spare
          ∙ set_mapped (λ (o : Option ℕ). mark (is_none o)) s.owners c.args.frame (Some (c.args.index + 1)) 0 refl;
      usable = usable_changed _ s.pages c.args.index (fresh_page c.args.frame) (Some c.args.frame)
          c.self.invariant.usable refl;
    }

pub returns : goal.returns
returns c =
    let s = store_of c.self.inside in
    let owner =
    subst (λ (s : StoreState). c.args.frame < length s.owners) (sym c.self.view_is) c.requires.frame_there in
    let zeros : c.args.memory ≡ replicate s.words 0 =
    c.requires.blank ∙ ap (λ (t : StoreState). replicate t.words 0) (sym c.self.view_is) in
    ap (λ fs. record s {
      pages = set s.pages c.args.index (fresh_page c.args.frame);
      frames = fs;
      owners = set s.owners c.args.frame (Some (c.args.index + 1));
    }) c.place.ensures ∙ opened_as s c.args.index c.args.frame c.args.memory zeros
    ∙ ap (λ t. open_fresh t c.args.index c.args.frame) c.self.view_is
