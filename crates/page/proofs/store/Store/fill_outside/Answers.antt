use Rattle.std.proofs.Common.{◌∙◌, List, ap, refl, subst, sym}
use Rattle.model.specs.Owning.{IsStore}
use Rattle.model.specs.Stores.{StoreState}
use Rattle.model.specs.declared.records.Page.{Page}
use Rattle.page.specs.Filling.{AreOutside, FillsFrames, all_filled}
use Rattle.page.specs.Views.{store_of}
use Rattle.page.proofs.Filled.{fills_all, filled_store, runs_back}
use Rattle.page.proofs.store.Store.fill_outside.Goals as goal

pub invariant_of-self : goal.invariant_of-self
invariant_of-self g c =
    let i = c.self.invariant in
    let s = store_of c.self.inside in
    let outside = subst (λ (t : StoreState). AreOutside t.pages 0 c.args.targets.now) (sym c.self.view_is)
    c.requires.outside in
    let fills = subst (λ (ps : List Page). FillsFrames c.self.inside.words ps c.args.sides.now c.args.layouts.now
    c.self.inside.frames c.args.targets.now c.fill_frames.new.frames c.fill_frames.new.targets)
    c.deref.ensures.value c.fill_frames.ensures in
    record {
      size = i.size;
      store = subst IsStore
          (sym (fills_all s c.self.inside.words c.args.sides.now c.args.layouts.now c.args.targets.now
          c.fill_frames.new.frames c.fill_frames.new.targets i.store refl outside
          fills))
          (filled_store s c.args.sides.now c.args.layouts.now 0 c.args.targets.now i.store outside);
      free = i.free;
      rooms = i.rooms;
      unused = i.unused;
      spare = i.spare;
      usable = i.usable;
    }

pub returns-clause-filled : goal.returns-clause-filled
returns-clause-filled g c =
    let s = store_of c.self.inside in
    let outside = subst (λ (t : StoreState). AreOutside t.pages 0 c.args.targets.now) (sym c.self.view_is)
    c.requires.outside in
    let fills = subst (λ (ps : List Page). FillsFrames c.self.inside.words ps c.args.sides.now c.args.layouts.now
    c.self.inside.frames c.args.targets.now c.fill_frames.new.frames c.fill_frames.new.targets)
    c.deref.ensures.value c.fill_frames.ensures in
    fills_all s c.self.inside.words c.args.sides.now c.args.layouts.now c.args.targets.now c.fill_frames.new.frames
    c.fill_frames.new.targets c.self.invariant.store refl outside
    fills
    ∙ ap (λ t. all_filled t c.args.sides.now c.args.layouts.now c.args.targets.now) c.self.view_is

pub returns-clause-runs : goal.returns-clause-runs
returns-clause-runs g c = runs_back c.self.inside.words c.deref.result.now c.args.sides.now c.args.layouts.now
    c.self.inside.frames c.args.targets.now c.fill_frames.new.frames c.fill_frames.new.targets c.fill_frames.ensures
