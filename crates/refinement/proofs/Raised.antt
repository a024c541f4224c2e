-- More words of an open page are given out, to nobody: the objects stay, and the free end of the page shrinks.
use Rattle.std.proofs.Common.{◌≡◌, ◌⊎◌, inl, inr, ◌≢◌, ℕ, ◌+◌, ◌*◌, ◌/◌, ◌%◌, ◌<◌, Bool, true, List, set}
use Rattle.std.proofs.Common.{Option, Some, None, refl, sym, ◌∙◌, ap, arith, cond}
use Rattle.std.specs.List.{slice_get}
use Rattle.std.specs.Option.{option_map, option_and_then}
use Rattle.std.proofs.Math.ListN.{length-set}
use Rattle.std.proofs.lemmas.Bool.{cases_eq}
use Rattle.std.proofs.lemmas.Option.{same_Some}
use mathlib.Core.Path.{fun_ext}
use Rattle.model.specs.declared.records.Page.{Page}
use Rattle.model.specs.Stores.{words_at, state_at, state_in, frame_in, page_at, has_memory, is_open}
use Rattle.model.specs.States.{HeapState}
use Rattle.model.specs.Registers.{register_of}
use Rattle.model.specs.Bits.{bit_at}
use Rattle.model.proofs.Lists.{each_set}
use Rattle.laws.specs.AddressHeap.{put}
use Rattle.laws.proofs.Basics.{put_same, put_other}
use Rattle.refinement.specs.Worlds.{world_of, object_at, object_in}
use Rattle.model.specs.Holding.{AreRowsOf}
use Rattle.page.proofs.RowSizes.{alike_rows}
use Rattle.refinement.specs.Claims.{IsLaid, Claim, OfObject, OfBuffer, OfPlan, OfEnd, Extent, extent}
use Rattle.refinement.specs.Claims.{object_size, sized_extent, planned_extent, end_extent, size_at, HasGiven}
use Rattle.refinement.proofs.Claims.{Within, shrunk_apart}
use Rattle.refinement.proofs.Carrying.{Carries, alike}
use Rattle.refinement.proofs.Granted.{page_set, page_here, page_keeps, with_more}

-- the heap with the next n words of page i + 1 given out to nobody
abbrev pub raised : HeapState → ℕ → Page → ℕ → HeapState
raised h i p n = record h { store = record h.store { pages = set h.store.pages i (with_more p n) } }

module _ (h : HeapState) (i : ℕ) (p : Page) (n : ℕ) (at : slice_get h.store.pages i ≡ Some p)
    (is_so : is_open p.state ≡ true) where
  abbrev after : HeapState
  after = raised h i p n

  pub states : (m : ℕ) → state_at after.store m ≡ state_at h.store m
  unfolding state_at
  states = page_keeps state_in h.store after.store i p (with_more p n) at refl refl

  words : (m : ℕ) → words_at after.store m ≡ words_at h.store m
  unfolding words_at
  words = page_keeps (λ o. option_and_then (slice_get h.store.frames) (frame_in o)) h.store after.store i p
      (with_more p n) at refl refl

  pub objects : (a : ℕ) → object_at after a ≡ object_at h a
  objects a = ap (λ o. object_in h.config.layouts (bit_at h.starts h.store.words a) o (a % h.store.words))
      (words (a / h.store.words))

  raised_world : world_of after ≡ world_of h
  unfolding register_of
  raised_world = λ z. record (world_of h) {
    page_state = fun_ext (λ a. states (a / h.store.words)) z;
    object_at = fun_ext objects z;
  }

  sizes : (a : ℕ) → size_at after a ≡ size_at h a
  sizes a = ap (option_map object_size) (objects a)

  ends : (m : ℕ)
      → extent after (OfEnd m) ≡ end_extent h.store.words m (put (page_at h.store) (i + 1) (Some (with_more p n)) m)
  ends m = ap (end_extent h.store.words m) (page_set h.store after.store i p (with_more p n) at refl m)

  abbrev end_from : ℕ → Option Extent
  end_from top =
      Some (record { from = (i + 1) * h.store.words + top; upto = (i + 1) * h.store.words + h.store.words })

  end_had : extent h (OfEnd (i + 1)) ≡ end_from p.top
  end_had = ap (end_extent h.store.words (i + 1)) (page_here h.store i p at)
      ∙ ap (λ b. cond b (end_from p.top) None) is_so

  pub end_has : extent after (OfEnd (i + 1)) ≡ end_from (p.top + n)
  end_has =
      ends (i + 1) ∙ ap (end_extent h.store.words (i + 1)) (put_same (page_at h.store) (i + 1) (Some (with_more p n)))
      ∙ ap (λ b. cond b (end_from (p.top + n)) None) is_so

  -- only the page's end changes
  pub others : (c : Claim) → (c ≡ OfEnd (i + 1)) ⊎ (extent after c ≡ extent h c)
  others (OfObject a) = inr (ap (option_map (sized_extent a)) (sizes a))
  others (OfBuffer u) = inr refl
  others (OfPlan a) = inr (ap (planned_extent ((world_of h).side_entry a)) (sizes a))
  others (OfEnd m) = go (cases_eq m (i + 1))
    where
      go : (m ≡ i + 1) ⊎ (m ≢ i + 1) → (OfEnd m ≡ OfEnd (i + 1)) ⊎ (extent after (OfEnd m) ≡ extent h (OfEnd m))
      go (inl e) = inl (ap OfEnd e)
      go (inr d) = inr (ends m
          ∙ ap (end_extent h.store.words m) (put_other (page_at h.store) (i + 1) (Some (with_more p n)) m d))

  shrinks : (c : Claim) (y : Extent) → extent after c ≡ Some y → (x : Extent) × (extent h c ≡ Some x) × Within y x
  shrinks c y e = elim (others c) [
    | inr same ↦ (y, sym same ∙ e, record { from = omega arith; upto = omega arith })
    | inl is ↦ (
        let k = same_Some _ _ (sym end_has ∙ ap (extent after) (sym is) ∙ e) in
        let from : (i + 1) * h.store.words + (p.top + n) ≡ y.from = ap (λ (z : Extent). z.from) k in
        let upto : (i + 1) * h.store.words + h.store.words ≡ y.upto = ap (λ (z : Extent). z.upto) k in (
          record { from = (i + 1) * h.store.words + p.top; upto = (i + 1) * h.store.words + h.store.words },
          ap (extent h) is ∙ end_had,
          record { from = omega (arith, from); upto = omega (arith, upto) },
        )
        )
  ]

  rows : (xs : List (List Bool)) → AreRowsOf h.store xs → AreRowsOf after.store xs
  rows xs r = r ∙ sym (alike_rows h.store _ i p (with_more p n) at refl refl)

  raised_laid : IsLaid h → IsLaid after
  raised_laid l = record {
    starts = rows h.starts l.starts;
    live = rows h.live l.live;
    mark = rows h.mark l.mark;
    todo = rows h.todo l.todo;
    sides = record {
      pages = l.sides.pages ∙ sym (length-set h.store.pages i (with_more p n));
      rising = l.sides.rising;
    };
    registers = l.registers;
    objects = λ a e k. let (o, is) = l.objects a e (ap has_memory (sym (states (a / h.store.words))) ∙ k) in
        (o, objects a ∙ is);
    apart = shrunk_apart (extent h) (extent after) l.apart shrinks;
    planned = λ a m o k f. l.planned a m o k (sym (objects a) ∙ f);
    live_objects = λ a e k. (let (o, is) =
        l.live_objects a e (ap has_memory (sym (states (a / h.store.words))) ∙ k) in (o, objects a ∙ is));
    unused = λ a k. l.unused a (sym (states (a / h.store.words)) ∙ k);
  }

  -- the address-level model stays
  pub raised_carries : 0 < n → Carries h after (λ w. w)
  raised_carries low = record {
    size = alike h after refl refl refl refl refl refl refl;
    laid = raised_laid;
    given = λ z. each_set HasGiven h.store.pages i (with_more p n) z (λ e. omega (arith, low));
    words = λ z. record { threads = z.threads; globals = z.globals };
    world = raised_world;
  }
