-- A thread gets words of an open page as its buffer: the objects stay, and the free end of the page is split.
use Rattle.std.proofs.Common.{◌≡◌, ◌≢◌, ◌⊎◌, inl, inr, ℕ, ◌+◌, ◌-◌, ◌*◌, ◌/◌, ◌%◌, ◌<◌, ◌≤◌, Bool, true, List, length}
use Rattle.std.proofs.Common.{set, Option, Some, None, refl, sym, ◌∙◌, ap, ap₂, arith, cond}
use Rattle.std.specs.List.{slice_get}
use Rattle.std.specs.Option.{option_map, option_and_then}
use Rattle.std.proofs.Math.ListN.{length-set}
use Rattle.std.proofs.lemmas.Bool.{cases_eq}
use Rattle.std.proofs.lemmas.Option.{same_Some}
use mathlib.Core.Path.{fun_ext}
use Rattle.model.specs.declared.records.Page.{Page}
use Rattle.model.specs.Stores.{StoreState, words_at, state_at, state_in, frame_in, page_at, has_memory, is_open}
use Rattle.model.specs.Stores.{buffer_of}
use Rattle.model.specs.States.{HeapState, ThreadState, change_at}
use Rattle.model.specs.Threads.{register_in, buffer_in, set_buffer_of, has_crossed, is_parked_in}
use Rattle.model.specs.Registers.{register_of}
use Rattle.model.proofs.Lists.{get_set_same, get_set_other, each_changed, each_set}
use Rattle.page.proofs.Keeping.{page_at_record, page_at_zero}
use Rattle.laws.specs.AddressHeap.{put}
use Rattle.laws.proofs.Basics.{put_all, put_same, put_other}
use Rattle.model.specs.Bits.{bit_at}
use Rattle.refinement.specs.Worlds.{world_of, object_at, object_in, as_word, barrier_in}
use Rattle.model.specs.Holding.{AreRowsOf}
use Rattle.page.proofs.RowSizes.{alike_rows}
use Rattle.refinement.specs.Claims.{IsLaid, Claim, OfObject, OfBuffer, OfPlan, OfEnd, Extent, extent}
use Rattle.refinement.specs.Claims.{object_size, sized_extent, planned_extent, buffer_extent, end_extent, size_at}
use Rattle.refinement.specs.Claims.{HasGiven}
use Rattle.refinement.specs.Roots.{HoldsWords}
use Rattle.refinement.proofs.Claims.{Splits, split_apart}
use Rattle.model.proofs.Tables.{length_changed}
use Rattle.refinement.proofs.Changes.{read_changed, kept_of}
use Rattle.refinement.proofs.Carrying.{Carries, alike}
use Rattle.refinement.proofs.Rooted.{buffer_holds_words}

-- the pages of a store after the record of an index was replaced
pub page_set : (s r : StoreState) (i : ℕ) (p q : Page) → slice_get s.pages i ≡ Some p → r.pages ≡ set s.pages i q
    → (m : ℕ) → page_at r m ≡ put (page_at s) (i + 1) (Some q) m
page_set s r i p q e f =
    put_all (λ m y. page_at r m ≡ y) (page_at s) (i + 1) (Some q) here (λ m d. elsewhere m d (cases_eq m 0))
  where
    here : page_at r (i + 1) ≡ Some q
    here = page_at_record r (i + 1) (λ k. absurd (omega (arith, k))) ∙ ap₂ slice_get f (omega arith)
        ∙ get_set_same s.pages i p q e

    elsewhere : (m : ℕ) → m ≢ i + 1 → (m ≡ 0) ⊎ (m ≢ 0) → page_at r m ≡ page_at s m
    elsewhere m d (inl z) = page_at_zero r m z ∙ sym (page_at_zero s m z)
    elsewhere m d (inr z) = page_at_record r m z ∙ ap (λ ps. slice_get ps (m - 1)) f
        ∙ get_set_other s.pages i (m - 1) q (λ k. d (omega (arith, k, z))) ∙ sym (page_at_record s m z)

pub page_here : (s : StoreState) (i : ℕ) (p : Page) → slice_get s.pages i ≡ Some p → page_at s (i + 1) ≡ Some p
page_here s i p e = page_at_record s (i + 1) (λ k. absurd (omega (arith, k))) ∙ ap (slice_get s.pages) (omega arith) ∙ e

-- a property on which the new record agrees with the old one stays for all pages
pub page_keeps : {B : Type 0} (P : Option Page → B) (s r : StoreState) (i : ℕ) (p q : Page)
    → slice_get s.pages i ≡ Some p → r.pages ≡ set s.pages i q → P (Some q) ≡ P (Some p) → (m : ℕ)
    → P (page_at r m) ≡ P (page_at s m)
page_keeps P s r i p q e f k m = ap P (page_set s r i p q e f m) ∙ put_all (λ n y. P y ≡ P (page_at s n)) (page_at s)
    (i + 1) (Some q) (k ∙ ap P (sym (page_here s i p e))) (λ n d. refl) m

-- a page with n more words given out
abbrev pub with_more : Page → ℕ → Page
with_more p n = record p { top = p.top + n }

-- thread t has the next n words of page i + 1 as its buffer
abbrev pub granted : HeapState → ℕ → ℕ → Page → ℕ → HeapState
granted h t i p n = record h {
  store = record h.store { pages = set h.store.pages i (with_more p n) };
  threads = change_at h.threads t (set_buffer_of (Some (buffer_of i p.top n)));
}

-- page i + 1 is open with space for n more words, and thread t has no buffer
pub record MayGrant (h : HeapState) (t i : ℕ) (p : Page) (n : ℕ) (x : ThreadState) : Type 0 where
  pub at : slice_get h.store.pages i ≡ Some p
  pub is_so : is_open p.state ≡ true
  pub room : p.top + n ≤ h.store.words
  pub thread : slice_get h.threads t ≡ Some x
  pub had : x.buffer ≡ None
  pub low : 0 < n

module _ {h : HeapState} (l : IsLaid h) {t i : ℕ} {p : Page} {n : ℕ} {x : ThreadState} (w : MayGrant h t i p n x) where
  abbrev after : HeapState
  after = granted h t i p n

  states : (m : ℕ) → state_at after.store m ≡ state_at h.store m
  unfolding state_at
  states = page_keeps state_in h.store after.store i p (with_more p n) w.at refl refl

  words : (m : ℕ) → words_at after.store m ≡ words_at h.store m
  unfolding words_at
  words = page_keeps (λ o. option_and_then (slice_get h.store.frames) (frame_in o)) h.store after.store i p
      (with_more p n) w.at refl refl

  objects : (a : ℕ) → object_at after a ≡ object_at h a
  objects a = ap (λ o. object_in h.config.layouts (bit_at h.starts h.store.words a) o (a % h.store.words))
      (words (a / h.store.words))

  granted_world : world_of (granted h t i p n) ≡ world_of h
  unfolding register_of
  granted_world = λ z. record (world_of h) {
    page_state = fun_ext (λ a. states (a / h.store.words)) z;
    object_at = fun_ext objects z;
    register =
        fun_ext (λ u. fun_ext (λ s. kept_of (λ o. as_word (register_in o s)) h.threads t change (λ y. refl) u)) z;
    crossed = fun_ext (kept_of has_crossed h.threads t change (λ y. refl)) z;
    parked = fun_ext (kept_of is_parked_in h.threads t change (λ y. refl)) z;
    barrier = fun_ext (kept_of barrier_in h.threads t change (λ y. refl)) z;
  }
    where
      change : ThreadState → ThreadState
      change = set_buffer_of (Some (buffer_of i p.top n))

  sizes : (a : ℕ) → size_at after a ≡ size_at h a
  sizes a = ap (option_map object_size) (objects a)

  buffers : (u : ℕ) → extent after (OfBuffer u)
      ≡ put (λ v. extent h (OfBuffer v)) t (Some (buffer_extent h.store.words (buffer_of i p.top n))) u
  buffers u = read_changed (λ o. option_map (buffer_extent h.store.words) (buffer_in o)) h.threads t
      (set_buffer_of (Some (buffer_of i p.top n))) x (Some (buffer_extent h.store.words (buffer_of i p.top n))) w.thread
      refl u

  ends : (m : ℕ)
      → extent after (OfEnd m) ≡ end_extent h.store.words m (put (page_at h.store) (i + 1) (Some (with_more p n)) m)
  ends m = ap (end_extent h.store.words m) (page_set h.store after.store i p (with_more p n) w.at refl m)

  end_had : extent h (OfEnd (i + 1)) ≡ Some (record {
    from = (i + 1) * h.store.words + p.top;
    upto = (i + 1) * h.store.words + h.store.words;
  })
  end_had = ap (end_extent h.store.words (i + 1)) (page_here h.store i p w.at) ∙ ap (λ b. cond b (Some (record {
    from = (i + 1) * h.store.words + p.top;
    upto = (i + 1) * h.store.words + h.store.words;
  })) None) w.is_so

  end_has : extent after (OfEnd (i + 1)) ≡ Some (record {
    from = (i + 1) * h.store.words + (p.top + n);
    upto = (i + 1) * h.store.words + h.store.words;
  })
  end_has =
      ends (i + 1) ∙ ap (end_extent h.store.words (i + 1)) (put_same (page_at h.store) (i + 1) (Some (with_more p n)))
      ∙ ap (λ b. cond b (Some (record {
        from = (i + 1) * h.store.words + (p.top + n);
        upto = (i + 1) * h.store.words + h.store.words;
      })) None) w.is_so

  others : (c : Claim) → (c ≡ OfEnd (i + 1)) ⊎ (c ≡ OfBuffer t) ⊎ (extent after c ≡ extent h c)
  others (OfObject a) = inr (inr (ap (option_map (sized_extent a)) (sizes a)))
  others (OfBuffer u) = go (cases_eq u t)
    where
      go : (u ≡ t) ⊎ (u ≢ t) → (OfBuffer u ≡ OfEnd (i + 1)) ⊎ (OfBuffer u ≡ OfBuffer t)
          ⊎ (extent after (OfBuffer u) ≡ extent h (OfBuffer u))
      go (inl k) = inr (inl (ap OfBuffer k))
      go (inr k) = inr (inr (buffers u
          ∙ put_other (λ v. extent h (OfBuffer v)) t (Some (buffer_extent h.store.words (buffer_of i p.top n))) u k))
  others (OfPlan a) = inr (inr (ap (planned_extent ((world_of h).side_entry a)) (sizes a)))
  others (OfEnd m) = go (cases_eq m (i + 1))
    where
      go : (m ≡ i + 1) ⊎ (m ≢ i + 1)
          → (OfEnd m ≡ OfEnd (i + 1)) ⊎ (OfEnd m ≡ OfBuffer t) ⊎ (extent after (OfEnd m) ≡ extent h (OfEnd m))
      go (inl k) = inl (ap OfEnd k)
      go (inr k) = inr (inr
          (ends m ∙ ap (end_extent h.store.words m) (put_other (page_at h.store) (i + 1) (Some (with_more p n)) m k)))

  splits : Splits (extent h) (extent after) (OfEnd (i + 1)) (OfBuffer t)
  splits = record {
    whole = record { from = (i + 1) * h.store.words + p.top; upto = (i + 1) * h.store.words + h.store.words };
    had = end_had;
    new = ap (λ o. option_map (buffer_extent h.store.words) (buffer_in o)) w.thread
        ∙ ap (option_map (buffer_extent h.store.words)) w.had;
    rest = λ y e. let k = left y e in record { from = omega (arith, k.0); upto = omega (arith, k.1) };
    part = λ y e. let k = part y e in record { from = omega (arith, k.0); upto = omega (arith, k.1, w.room) };
    apart = λ y z e f. inr (let k = left y e in let g = part z f in omega (arith, k.0, g.1));
    others = others;
  }
    where
      left : (y : Extent) → extent after (OfEnd (i + 1)) ≡ Some y
          → (y.from ≡ (i + 1) * h.store.words + (p.top + n)) × (y.upto ≡ (i + 1) * h.store.words + h.store.words)
      left y e =
          let k = same_Some _ _ (sym end_has ∙ e) in
          (sym (ap (λ (z : Extent). z.from) k), sym (ap (λ (z : Extent). z.upto) k))

      part : (y : Extent) → extent after (OfBuffer t) ≡ Some y
          → (y.from ≡ (i + 1) * h.store.words + p.top) × (y.upto ≡ (i + 1) * h.store.words + (p.top + n))
      part y e =
          let k = same_Some _ _ (sym (buffers t ∙ put_same (λ v. extent h (OfBuffer v)) t
          (Some (buffer_extent h.store.words (buffer_of i p.top n)))) ∙ e) in
          (sym (ap (λ (z : Extent). z.from) k), sym (ap (λ (z : Extent). z.upto) k))

  rows : (xs : List (List Bool)) → AreRowsOf h.store xs → AreRowsOf after.store xs
  rows xs r = r ∙ sym (alike_rows h.store _ i p (with_more p n) w.at refl refl)

  -- memory is in order
  granted_laid : IsLaid (granted h t i p n)
  granted_laid = record {
    starts = rows h.starts l.starts;
    live = rows h.live l.live;
    mark = rows h.mark l.mark;
    todo = rows h.todo l.todo;
    sides = record {
      pages = l.sides.pages ∙ sym (length-set h.store.pages i (with_more p n));
      rising = l.sides.rising;
    };
    registers = each_changed (λ y. length y.registers ≡ h.config.registers) h.threads t
        (set_buffer_of (Some (buffer_of i p.top n))) l.registers (λ y e. e);
    objects = λ a e k. let (o, is) = l.objects a e (ap has_memory (sym (states (a / h.store.words))) ∙ k) in
        (o, objects a ∙ is);
    apart = split_apart (extent h) (extent after) l.apart (OfEnd (i + 1)) (OfBuffer t) splits;
    planned = λ a m o k f. l.planned a m o k (sym (objects a) ∙ f);
    live_objects = λ a e k. (let (o, is) =
        l.live_objects a e (ap has_memory (sym (states (a / h.store.words))) ∙ k) in (o, objects a ∙ is));
    unused = λ a k. l.unused a (sym (states (a / h.store.words)) ∙ k);
  }

  -- the address-level model stays
  pub granted_carries : Carries h (granted h t i p n) (λ w. w)
  granted_carries = record {
    size = alike h after refl refl refl refl (length_changed h.threads t change) refl refl;
    laid = λ z. granted_laid;
    given = λ z. each_set HasGiven h.store.pages i (with_more p n) z (λ e. omega (arith, w.low));
    words = λ z. record {
      threads = each_changed (HoldsWords h.config.registers) h.threads t change z.threads
          (buffer_holds_words h.config.registers (Some (buffer_of i p.top n)));
      globals = z.globals;
    };
    world = granted_world;
  }
    where
      change : ThreadState → ThreadState
      change = set_buffer_of (Some (buffer_of i p.top n))
