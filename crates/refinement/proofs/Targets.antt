-- Targets: pages that are opened for a plan, given out completely, and to nobody. What was in the heap stays.
use Rattle.std.proofs.Common.{◌≡◌, ◌≢◌, ◌⊎◌, inl, inr, ℕ, zero, suc, ◌+◌, ◌*◌, ◌<◌, ◌≤◌}
use Rattle.std.proofs.Common.{List, [], ◌∷◌, length, set, cond, replicate, Option, Some}
use Rattle.std.proofs.Common.{None}
use Rattle.std.proofs.Common.{IfSome, nat_eq, eq-eqb, ne_eqb, refl, sym, ◌∙◌, ap, subst, arith}
use Rattle.std.specs.List.{slice_get}
use Rattle.std.proofs.Math.ListN.{length-set}
use Rattle.std.proofs.lemmas.Bool.{cases_eq}
use Rattle.std.proofs.lemmas.Option.{same_Some}
use Rattle.model.specs.declared.records.Page.{Page}
use Rattle.model.specs.declared.records.PageState.TheVariants.{Unused, Open}
use Rattle.model.specs.declared.records.Buffer.{Buffer}
use Rattle.model.specs.Stores.{StoreState, state_at, open_fresh}
use Rattle.model.specs.Stores.{fresh_page}
use Rattle.model.specs.Stores.{give_words, buffer_of}
use Rattle.model.specs.Owning.{Each, IsStore, LiesIn}
use Rattle.model.specs.Holding.{FillsIn}
use Rattle.model.specs.States.{HeapState}
use Rattle.model.specs.Bits.{bit_at}
use Rattle.model.specs.Plain.{PlainHeap}
use Rattle.model.specs.Protections.{with_target, with_targets, behind_target, free_count, unused_count}
use Rattle.model.proofs.Plans.{IsIn, at_in}
use Rattle.page.proofs.Keeping.{open_keeps, raise_keeps, opened_at, given_at}
use Rattle.page.proofs.Lying.{well_opened}
use Rattle.page.proofs.NextTargets.{NextTarget, next_target, free_less, unused_less}
use Rattle.laws.specs.AddressHeap.{AddressHeap}
use Rattle.laws.specs.Transitions.{TakeFresh}
use Rattle.laws.specs.Edits.{open_page}
use Rattle.refinement.specs.Worlds.{object_at}
use Rattle.refinement.specs.Claims.{Claim, OfEnd, Extent, extent, HasGiven}
use Rattle.refinement.specs.Standing.{Holds}
use Rattle.refinement.proofs.Carrying.{Carries, alike, step_by, stays}
use Rattle.refinement.proofs.Granted.{with_more}
use Rattle.refinement.proofs.Opened.{MayOpen, opened_heap, opened_world, opened_laid, opened_objects, on_page}
use Rattle.refinement.proofs.Opened.{was_unused, old_or_new}
use Rattle.refinement.proofs.Opened as opened
use Rattle.refinement.proofs.Raised.{raised, raised_carries}
use Rattle.refinement.proofs.Raised as raising
use Rattle.refinement.proofs.Buffers.{each_set_again, blank_rows}

-- one target

-- the heap with page i + 1 opened on frame f, and given out completely
abbrev pub target_heap : HeapState → ℕ → ℕ → HeapState
target_heap h i f = raised (opened_heap h i f) i (fresh_page f) h.store.words

-- it is what the store gave out
as_target : (h : HeapState) (i f : ℕ) (p : Page) → slice_get h.store.pages i ≡ Some p
    → with_target h (give_words (open_fresh h.store i f) i h.store.words) ≡ target_heap h i f
unfolding with_target open_fresh
as_target h i f p at = ap (with_target h)
    (given_at (open_fresh h.store i f) i h.store.words (fresh_page f) (opened_at h.store i f p at)) ∙ whole
  where
    whole : with_target h (
      record (open_fresh h.store i f) {
        pages = set (open_fresh h.store i f).pages i (with_more (fresh_page f) h.store.words);
      },
      buffer_of i 0 h.store.words,
    ) ≡ target_heap h i f
    whole = λ z. record (target_heap h i f) {
      starts = blank_rows h.store.words i h.store.words h.starts z;
      live = blank_rows h.store.words i h.store.words h.live z;
      mark = blank_rows h.store.words i h.store.words h.mark z;
      todo = blank_rows h.store.words i h.store.words h.todo z;
    }

-- g is h with pages ts opened as targets, which were unused: all claims of g were there before, or are the ends of
-- targets, with no words left
pub record HasTargets (h g : HeapState) (ts : List ℕ) : Type 0 where
  pub store : IsStore g.store
  pub fills : Each g.threads (FillsIn g.store)
  pub config : g.config ≡ h.config
  pub words : g.store.words ≡ h.store.words
  pub threads : g.threads ≡ h.threads
  pub sides : g.sides ≡ h.sides
  pub phase : g.phase ≡ h.phase
  pub old : (n : ℕ) → IsIn n ts ⊎ (state_at g.store n ≡ state_at h.store n)
  pub new : (n : ℕ) → IsIn n ts → (state_at h.store n ≡ Unused) × (state_at g.store n ≡ Open)
  pub objects : (a : ℕ) → object_at g a ≡ object_at h a
  pub live : (a : ℕ) → bit_at g.live h.store.words a ≡ bit_at h.live h.store.words a
  pub once : (i j n : ℕ) → slice_get ts i ≡ Some n → slice_get ts j ≡ Some n → i ≡ j
  pub extents : (c : Claim) (y : Extent) → extent g c ≡ Some y
      → (extent h c ≡ Some y)
      ⊎ ((t : ℕ) × IsIn t ts × (y.from ≡ t * h.store.words + h.store.words)
      × (y.upto ≡ t * h.store.words + h.store.words))

no_targets : (h : HeapState) → IsStore h.store → Each h.threads (FillsIn h.store) → HasTargets h h []
no_targets h s k = record {
  store = s;
  fills = k;
  config = refl;
  words = refl;
  threads = refl;
  sides = refl;
  phase = refl;
  old = λ n. inr refl;
  new = λ n e. absurd e;
  objects = λ a. refl;
  live = λ a. refl;
  once = λ i j n e f. absurd (cc);
  extents = λ c y e. inl e;
}

unused_open : Unused ≡ Open → ⊥
unused_open e = cc

module _ (h : HeapState) (p p0 : PlainHeap) (s : IsStore h.store) (d : Each h.threads (FillsIn h.store))
    (k : Holds h p p0) (x : NextTarget h.store) where
  abbrev after : HeapState
  after = target_heap h x.index x.frame

  may : MayOpen h x.index x.frame x.page
  may = record { at = x.at; unused = x.unused; free = x.free }

  at : slice_get (open_fresh h.store x.index x.frame).pages x.index ≡ Some (fresh_page x.frame)
  at = opened_at h.store x.index x.frame x.page x.at

  low : 0 < h.store.words
  low = s.sized.words_low

  target_store : IsStore after.store
  unfolding open_fresh
  target_store = raise_keeps (open_fresh h.store x.index x.frame) x.index (fresh_page x.frame) (0 + h.store.words)
      (open_keeps h.store x.index x.frame x.page s x.at x.unused x.free) at (omega arith)

  target_fills : Each after.threads (FillsIn after.store)
  target_fills i y e = by_buffer y.buffer (d i y e)
    where
      stay : (c : Buffer) → LiesIn h.store c → LiesIn after.store c
      stay c lies = subst (λ (z : StoreState × Buffer). LiesIn z.0 c)
          (given_at (open_fresh h.store x.index x.frame) x.index h.store.words (fresh_page x.frame) at)
          ((well_opened h.store x.index x.frame h.store.words x.page x.at (omega arith)).stays c lies)

      by_buffer : (o : Option Buffer) → IfSome o (LiesIn h.store) → IfSome o (LiesIn after.store)
      by_buffer None f = tt
      by_buffer (Some c) f = stay c f

  target_carries : Carries h after (open_page (on_page h x.index))
  unfolding open_fresh
  target_carries =
      let laid = opened_laid s d k.laid k.invariant.objects k.invariant.marks may in
      let c = raised_carries (opened_heap h x.index x.frame) x.index (fresh_page x.frame) h.store.words at refl low in
      record {
        size = alike h after refl refl
            (length-set h.store.frames x.frame (replicate h.store.words 0)) refl refl refl refl;
        laid = λ z. c.laid laid;
        given = λ z. each_set_again HasGiven h.store.pages x.index (fresh_page x.frame)
            (with_more (fresh_page x.frame) h.store.words) z (λ e. omega (arith, low));
        words = λ w. c.words (record { threads = w.threads; globals = w.globals });
        world = c.world ∙ opened_world s d k.laid k.invariant.objects k.invariant.marks may;
      }

  -- a heap with a target represents what it did
  target_holds : Holds after p p0
  target_holds = step_by k target_carries (stays h p)
      (TakeFresh (on_page h x.index) (was_unused s d k.laid k.invariant.objects k.invariant.marks may))

  state_was : (n : ℕ) → n ≡ x.index + 1 → state_at h.store n ≡ Unused
  state_was n e = ap (state_at h.store) e ∙ opened.state s d k.laid k.invariant.objects k.invariant.marks may

  -- the state of a page, by the store
  state_now : (n : ℕ) → state_at after.store n ≡ cond (nat_eq n (x.index + 1)) Open (state_at h.store n)
  state_now n = raising.states (opened_heap h x.index x.frame) x.index (fresh_page x.frame) h.store.words at refl n
      ∙ opened.page_states s d k.laid k.invariant.objects k.invariant.marks may n

  claims : (c : Claim) (y : Extent) → extent after c ≡ Some y
      → (extent h c ≡ Some y)
      ⊎ ((t : ℕ) × IsIn t ((x.index + 1) ∷ []) × (y.from ≡ t * h.store.words + h.store.words)
      × (y.upto ≡ t * h.store.words + h.store.words))
  unfolding open_fresh
  claims c y e =
      by_end (raising.others (opened_heap h x.index x.frame) x.index (fresh_page x.frame) h.store.words at refl c)
    where
      the_end : c ≡ OfEnd (x.index + 1)
          → (t : ℕ) × IsIn t ((x.index + 1) ∷ []) × (y.from ≡ t * h.store.words + h.store.words)
          × (y.upto ≡ t * h.store.words + h.store.words)
      the_end is =
          let has = raising.end_has (opened_heap h x.index x.frame) x.index (fresh_page x.frame) h.store.words at
          refl in
          let z = same_Some _ _ (sym has ∙ ap (extent after) (sym is) ∙ e) in
          let from : (x.index + 1) * h.store.words + (0 + h.store.words) ≡ y.from = ap (λ (u : Extent). u.from) z in
          let upto : (x.index + 1) * h.store.words + h.store.words ≡ y.upto = ap (λ (u : Extent). u.upto) z in
          (x.index + 1, inl refl, omega (arith, from), omega (arith, upto))

      by_end : (c ≡ OfEnd (x.index + 1)) ⊎ (extent after c ≡ extent (opened_heap h x.index x.frame) c)
          → (extent h c ≡ Some y)
          ⊎ ((t : ℕ) × IsIn t ((x.index + 1) ∷ []) × (y.from ≡ t * h.store.words + h.store.words)
          × (y.upto ≡ t * h.store.words + h.store.words))
      by_end (inl is) = inr (the_end is)
      by_end (inr same) = elim (old_or_new s d k.laid k.invariant.objects k.invariant.marks may c) [
        | inl is ↦ inr (the_end is)
        | inr before ↦ inl (sym before ∙ sym same ∙ e)
      ]

  -- one target is opened
  one_target : HasTargets h after ((x.index + 1) ∷ [])
  unfolding open_fresh
  one_target = record {
    store = target_store;
    fills = target_fills;
    config = refl;
    words = refl;
    threads = refl;
    sides = refl;
    phase = refl;
    old = λ n. elim (cases_eq n (x.index + 1)) [
      | inl e ↦ inl (inl (sym e))
      | inr m ↦ inr (state_now n ∙ ap (λ b. cond b Open (state_at h.store n)) (ne_eqb n (x.index + 1) m))
    ];
    new = λ n e. elim e [
      | inl is ↦ (
        state_was n (sym is),
        state_now n ∙ ap (λ b. cond b Open (state_at h.store n)) (eq-eqb n (x.index + 1) (sym is)),
      )
      | inr none ↦ absurd none
    ];
    objects = λ a. raising.objects (opened_heap h x.index x.frame) x.index (fresh_page x.frame) h.store.words at refl a
        ∙ opened_objects s d k.laid k.invariant.objects k.invariant.marks may a;
    live = λ a. ap (λ (w : AddressHeap). w.live a) (opened_world s d k.laid k.invariant.objects k.invariant.marks may);
    once = once;
    extents = claims;
  }
    where
      once : (i j n : ℕ) → slice_get ((x.index + 1) ∷ []) i ≡ Some n → slice_get ((x.index + 1) ∷ []) j ≡ Some n → i ≡ j
      once zero zero n e f = refl
      once zero (suc j) n e f = absurd (cc)
      once (suc i) j n e f = absurd (cc)

-- targets after a target
more_targets : (h g m : HeapState) (t : ℕ) (ts : List ℕ) → HasTargets h g (t ∷ []) → HasTargets g m ts
    → HasTargets h m (t ∷ ts)
more_targets h g m t ts a b = record {
  store = b.store;
  fills = b.fills;
  config = b.config ∙ a.config;
  words = b.words ∙ a.words;
  threads = b.threads ∙ a.threads;
  sides = b.sides ∙ a.sides;
  phase = b.phase ∙ a.phase;
  old = λ n. elim (b.old n) [
    | inl is ↦ inl (inr is)
    | inr same ↦ elim (a.old n) [
      | inl is ↦ elim is [ inl e ↦ inl (inl e) | inr none ↦ absurd none ]
      | inr before ↦ inr (same ∙ before)
    ]
  ];
  new = new;
  objects = λ x. b.objects x ∙ a.objects x;
  live = λ x. ap (λ w. bit_at m.live w x) (sym a.words) ∙ b.live x ∙ ap (λ w. bit_at g.live w x) a.words ∙ a.live x;
  once = once;
  extents = λ c y e. elim (b.extents c y e) [
    | inl before ↦ elim (a.extents c y before) [
      | inl first ↦ inl first
      | inr (n, is, from, upto) ↦ inr (n, elim is [ inl z ↦ inl z | inr none ↦ absurd none ], from, upto)
    ]
    | inr (n, is, from, upto) ↦ inr (n, inr is, from ∙ ends n, upto ∙ ends n)
  ];
}
  where
    ends : (n : ℕ) → n * g.store.words + g.store.words ≡ n * h.store.words + h.store.words
    ends n = ap (λ w. n * w + w) a.words

    fresh : state_at g.store t ≡ Open
    fresh = (a.new t (inl refl)).1

    -- the first isn't among the others
    other : (n : ℕ) → IsIn n ts → t ≢ n
    other n is e = unused_open (sym (b.new n is).0 ∙ ap (state_at g.store) (sym e) ∙ fresh)

    new : (n : ℕ) → IsIn n (t ∷ ts) → (state_at h.store n ≡ Unused) × (state_at m.store n ≡ Open)
    new n (inl e) = (
      (a.new n (inl e)).0,
      elim (b.old n) [ inl is ↦ absurd (other n is e) | inr same ↦ same ∙ (a.new n (inl e)).1 ],
    )
    new n (inr is) = (
      elim (a.old n) [
        | inl k ↦ elim k [ inl e ↦ absurd (other n is e) | inr none ↦ absurd none ]
        | inr same ↦ sym same ∙ (b.new n is).0
      ],
      (b.new n is).1,
    )

    once : (i j n : ℕ) → slice_get (t ∷ ts) i ≡ Some n → slice_get (t ∷ ts) j ≡ Some n → i ≡ j
    once zero zero n e f = refl
    once zero (suc j) n e f = absurd (other n (at_in n ts j f) (same_Some _ _ e))
    once (suc i) zero n e f = absurd (other n (at_in n ts i e) (same_Some _ _ f))
    once (suc i) (suc j) n e f = ap suc (b.once i j n e f)

-- k targets are opened, and the heap represents what it did
pub record TargetsHold (h : HeapState) (k : ℕ) (x : HeapState × List ℕ) (p p0 : PlainHeap) : Type 0 where
  pub targets : HasTargets h x.0 x.1
  pub holds : Holds x.0 p p0
  pub many : length x.1 ≡ k

opened_first : (k : ℕ) (h : HeapState) (x : NextTarget h.store)
    → with_targets (suc k) h
    ≡ (
      (with_targets k (target_heap h x.index x.frame)).0,
      (x.index + 1) ∷ (with_targets k (target_heap h x.index x.frame)).1,
    )
opened_first k h x = ap (behind_target (with_targets k) h) x.is ∙ ap
    (λ (g : HeapState). (
      (with_targets k g).0,
      (give_words (open_fresh h.store x.index x.frame) x.index
          h.store.words).1.page ∷ (with_targets k g).1,
    )) (as_target h x.index x.frame x.page x.at)
    ∙ ap (λ (z : StoreState × Buffer). (
      (with_targets k (target_heap h x.index x.frame)).0,
      z.1.page ∷ (with_targets k (target_heap h x.index x.frame)).1,
    )) (given_at (open_fresh h.store x.index x.frame)
    x.index h.store.words (fresh_page x.frame) (opened_at h.store x.index x.frame x.page x.at))

pub targets_hold : (k : ℕ) (h : HeapState) (p p0 : PlainHeap) → IsStore h.store → Each h.threads (FillsIn h.store)
    → Holds h p p0 → k ≤ free_count h.store → k ≤ unused_count h.store → TargetsHold h k (with_targets k h) p p0
targets_hold zero h p p0 s d k free unused = record { targets = no_targets h s d; holds = k; many = refl }
targets_hold (suc n) h p p0 s d k free unused =
    let x = next_target h.store s (omega (arith, free)) (omega (arith, unused)) in
    let rest = targets_hold n (target_heap h x.index x.frame) p p0 (target_store h p p0 s d k x)
    (target_fills h p p0 s d k x) (target_holds h p p0 s d k x)
    (omega (arith, free, free_less h.store x)) (omega (arith, unused, unused_less h.store x)) in
    subst (λ z. TargetsHold h (suc n) z p p0) (sym (opened_first n h x)) (record {
      targets = more_targets h (target_heap h x.index x.frame) _ (x.index + 1) _ (one_target h p p0 s d k x)
          rest.targets;
      holds = rest.holds;
      many = ap suc rest.many;
    })
