use Rattle.std.proofs.Common.{◌≡◌, ℕ, List, length, map, subst, sym}
use Rattle.model.specs.declared.records.Page.{Page}
use Rattle.model.specs.Stores.{StoreState}
use Rattle.page.specs.declared.owned.Part.{Part}
use Rattle.page.specs.Owned.{OwnsBy, SwappedParts}
use Rattle.page.specs.Views.{store_of}
use Rattle.page.proofs.Emptied.{frames_keep}
use Rattle.page.proofs.store.Store.own_by.Goals as goal

pub invariant_of-self : goal.invariant_of-self
invariant_of-self g c =
    let i = c.self.invariant in
    let keeps = subst (λ (s : StoreState). (frames : List (List ℕ)) (back : List Part)
    → OwnsBy g.F.Fn c.args.f.now s.pages s.frames c.args.parts.now frames back
    → map length frames ≡ map length s.frames) (sym c.self.view_is) c.requires.keeps in
    record {
      size = i.size;
      store = frames_keep (store_of c.self.inside) c.swap_parts-2.new.frames i.store
          (keeps c.swap_parts-2.new.frames c.swap_parts-2.new.parts (record {
            between = c.swap_parts.new.frames;
            lent = c.swap_parts.new.parts;
            left = c.for_each_mut.new.s;
            take = subst (λ (ps : List Page). SwappedParts ps c.self.inside.frames c.args.parts.now
                c.swap_parts.new.frames c.swap_parts.new.parts) c.deref.ensures.value c.swap_parts.ensures;
            changed = c.for_each_mut.ensures;
            long = c.for_each_mut.auto.s;
            give = subst (λ (ps : List Page). SwappedParts ps c.swap_parts.new.frames c.for_each_mut.new.s
                c.swap_parts-2.new.frames c.swap_parts-2.new.parts) c.deref-2.ensures.value c.swap_parts-2.ensures;
          }));
      free = i.free;
      rooms = i.rooms;
      unused = i.unused;
      spare = i.spare;
      usable = i.usable;
    }

pub returns-clause-owns : goal.returns-clause-owns
returns-clause-owns g c =
    subst (λ (s : StoreState). OwnsBy g.F.Fn c.args.f.now s.pages s.frames c.args.parts.now c.swap_parts-2.new.frames
    c.swap_parts-2.new.parts) c.self.view_is (record {
      between = c.swap_parts.new.frames;
      lent = c.swap_parts.new.parts;
      left = c.for_each_mut.new.s;
      take = subst (λ (ps : List Page). SwappedParts ps c.self.inside.frames c.args.parts.now
          c.swap_parts.new.frames c.swap_parts.new.parts) c.deref.ensures.value c.swap_parts.ensures;
      changed = c.for_each_mut.ensures;
      long = c.for_each_mut.auto.s;
      give = subst (λ (ps : List Page). SwappedParts ps c.swap_parts.new.frames c.for_each_mut.new.s
          c.swap_parts-2.new.frames c.swap_parts-2.new.parts) c.deref-2.ensures.value c.swap_parts-2.ensures;
    })
