-- Pages are protected. Letters are those of `Emptied`.
use Rattle.std.proofs.Common.{◌≡◌, ◌⊎◌, inl, inr, ℕ, zero, suc, ◌+◌, ◌*◌, ◌/◌, ◌%◌, ◌≤◌, Bool, true, false}
use Rattle.std.proofs.Common.{cond, not, List, [], ◌∷◌, length, map, get_or, Option, Some, None, refl, sym, ◌∙◌}
use Rattle.std.proofs.Common.{ap, subst, arith}
use mathlib.Core.Path.{fun_ext}
use Rattle.std.specs.List.{slice_get}
use Rattle.std.specs.Option.{option_map}
use Rattle.std.proofs.lemmas.Bool.{cases_eq, false≢true}
use Rattle.std.proofs.lemmas.List.{length-map}
use Rattle.std.proofs.lemmas.Nat.{div-mul-add, mod-mul-add}
use Rattle.std.proofs.lemmas.Option.{slice_get-map, same_Some, none-some}
use Rattle.model.specs.declared.records.Forwarding.{Forwarding}
use Rattle.model.specs.declared.records.Page.{Page}
use Rattle.model.specs.declared.records.PageState.TheVariants.{Unused, Open, Closed, From}
use Rattle.model.specs.declared.records.Phase.TheVariants.{ProtectCrossing}
use Rattle.model.specs.declared.steps.Actor.TheVariants.{Worker}
use Rattle.model.specs.declared.steps.Step.TheVariants as steps
use Rattle.model.specs.declared.steps.Refusal.TheVariants as refusals
use Rattle.model.specs.Phases.{is_idle}
use Rattle.model.specs.Refusing.{refuse_if}
use Rattle.model.specs.Stores.{state_at, state_in, has_memory, is_open, is_protected, is_unused}
use Rattle.model.specs.Owning.{Each, IsStore}
use Rattle.model.specs.Holding.{IsHeap, AreRising, AreRowsOf}
use Rattle.model.specs.States.{HeapState, ThreadState}
use Rattle.model.specs.Threads.{register_in, buffer_in, has_crossed, is_parked_in, set_crossed_of}
use Rattle.model.specs.Registers.{register_of}
use Rattle.model.specs.Bits.{of_page, bit_at}
use Rattle.model.specs.Plain.{PlainHeap, plain_step, plain_answer}
use Rattle.model.specs.Plans.{live_offsets, plan_of, target_count, moves_of, place_of, side_of}
use Rattle.model.specs.Protections.{set_from_of, with_protected, protect, protect_with, with_targets}
use Rattle.model.specs.Protections.{all_ripe}
use Rattle.model.specs.Protections.{room_for, protect_outcome}
use Rattle.model.proofs.Plans.{IsIn, at_in, bit_told, side_rises}
use Rattle.laws.specs.AddressHeap.{HeapObject, NoEntry, Planned, Copied}
use Rattle.laws.specs.Edits.{protect_pages}
use Rattle.laws.specs.Transitions.{MayProtect, Protect}
use Rattle.refinement.specs.Worlds.{world_of, object_at, as_word, barrier_in}
use Rattle.model.proofs.Tables.{row_short}
use Rattle.page.proofs.Relocated.{used_there}
use Rattle.page.proofs.RowSizes.{protected_rows}
use Rattle.refinement.specs.Claims.{IsLaid, Apart, AreApart, Claim, OfObject, OfBuffer, OfPlan, OfEnd}
use Rattle.refinement.specs.Claims.{Extent, extent, object_size, sized_extent, planned_extent, buffer_extent}
use Rattle.refinement.specs.Claims.{end_extent}
use Rattle.refinement.specs.Claims.{size_at, HasGiven}
use Rattle.refinement.specs.Roots.{HoldsWords}
use Rattle.refinement.specs.Standing.{Holds}
use Rattle.refinement.proofs.Accepted.{on_has}
use Rattle.refinement.proofs.Carrying.{Carries, RowHolds, alike, step_by, stays}
use Rattle.refinement.proofs.Changes.{list_of, list_read}
use Rattle.refinement.proofs.StartMarks.{kept_of_all, each_of_all, first_waits}
use Rattle.refinement.proofs.Opened.{LiesOn, pages_apart, claim_lies}
use Rattle.refinement.proofs.Targets.{targets_hold}
use Rattle.refinement.proofs.Protecting.{sides_many, pages_many, pages_read}
use Rattle.refinement.proofs.Planned.{IsPlanned, of_live, planned, place_extent, place_lies}
use Rattle.refinement.proofs.Planned.{planned_apart}
use Rattle.refinement.proofs.Emptied.{MayEmpty, GoesTo, IsEmptied, idle, positive, page_after, page_keeps}
use Rattle.refinement.proofs.Emptied.{state_emptied, state_stays, objects_after, side_after, side_stays}
use Rattle.refinement.proofs.Emptied.{goes_to, entry_after, in_or_out}
use Rattle.refinement.proofs.ProtectionTests.{all_closed, has_room, idle_is}

-- a bit that is read as set exists
read_true : (row : List Bool) (o : ℕ) → get_or row o false ≡ true → slice_get row o ≡ Some true
read_true [] o e = absurd (cc)
read_true (b ∷ row) zero e = ap Some e
read_true (b ∷ row) (suc o) e = read_true row o e

closed_unused : Closed ≡ Unused → ⊥
closed_unused e = cc

module _ (h g : HeapState) (p p0 : PlainHeap) (ts pages : List ℕ) (d : IsHeap h) (m : MayEmpty h g p p0 ts pages) where
  abbrev after : HeapState
  after = with_protected h g pages (moves_of h pages ts)

  laid : IsLaid h
  laid = m.before.laid

  -- an address has the same page in both heaps
  page_of : (a : ℕ) → a / g.store.words ≡ a / h.store.words
  page_of a = ap (λ w. a / w) m.targets.words

  -- the planned place of an address
  plan_at : (a : ℕ) → GoesTo h g p p0 ts pages m a
      → IsPlanned h m.store laid pages m.closed ts m.enough a (place_of (moves_of h pages ts) a)
  plan_at a k = planned h m.store laid pages m.closed ts m.enough a
      (of_live h m.store laid pages m.closed a k.page k.offset)

  abbrev Goes : ℕ → ℕ → Type 0
  Goes a n = IsPlanned h m.store laid pages m.closed ts m.enough a n

  goes : (a n : ℕ) → (world_of after).side_entry a ≡ Planned n → GoesTo h g p p0 ts pages m a × Goes a n
  goes a n e = elim (entry_after h g p p0 ts pages m a) [
    | inl k ↦ (k, subst (Goes a) (same (sym k.is ∙ e)) (plan_at a k))
    | inr none ↦ absurd (no (sym none ∙ e))
  ]
    where
      same : {x y : ℕ} → Planned x ≡ Planned y → x ≡ y
      same z = cc

      no : NoEntry ≡ Planned n → ⊥
      no z = cc

  -- a target isn't protected: nothing was on it
  target_new : (t i : ℕ) → slice_get ts i ≡ Some t → (state_at h.store t ≡ Unused) × (state_at after.store t ≡ Open)
  target_new t i e =
      let (was, now) = m.targets.new t (at_in t ts i e) in (
        was,
        elim (in_or_out h g p p0 ts pages m t) [
          | inl there ↦ absurd (closed_unused (sym (m.closed t there) ∙ was))
          | inr out ↦ state_stays h g p p0 ts pages m t out ∙ now
        ],
      )

  place_on : (a n : ℕ) (x : Goes a n) → n / h.store.words ≡ x.target
  place_on a n x = ap (λ z. z / h.store.words) (sym x.is)
      ∙ div-mul-add x.target h.store.words x.place.1 (omega (arith, x.room))

  none_there : (a n : ℕ) (x : Goes a n) → object_at h n ≡ None
  none_there a n x = by_object (object_at h n) refl
    where
      no : true ≡ false → ⊥
      no z = cc

      by_object : (o : Option HeapObject) → object_at h n ≡ o → object_at h n ≡ None
      by_object None e = e
      by_object (Some o) e = absurd (no (sym (m.before.invariant.objects.with_memory n o e)
          ∙ ap (λ y. has_memory (state_at h.store y)) (place_on a n x)
          ∙ ap has_memory (target_new x.target x.place.0 x.in_target).0))

  was_closed : (n : ℕ) → IsEmptied g after n → state_at g.store n ≡ Closed
  unfolding state_at
  was_closed n e = ap state_in e.was ∙ e.closed

  told : (a : ℕ) → bit_at h.live h.store.words a ≡ true
      → IsIn (a % h.store.words) (live_offsets h (a / h.store.words))
  unfolding live_offsets
  told a e = bit_told 0 (of_page h.live (a / h.store.words)) (a % h.store.words) (a % h.store.words) (omega arith)
      (read_true (of_page h.live (a / h.store.words)) (a % h.store.words) e)

  -- the protection is a transition of the laws
  may_protect : MayProtect (world_of g) (world_of after).page_state (world_of after).side_entry (world_of after).crossed
  unfolding with_protected
  may_protect = record {
    phase = idle h g p p0 ts pages m;
    changes = λ a. elim (page_after h g p p0 ts pages m (a / g.store.words)) [
      | inl (there, e) ↦ inr (inl (
        was_closed (a / g.store.words) e,
        state_emptied h g p p0 ts pages m (a / g.store.words) there,
      ))
      | inr (out, e) ↦ inl (state_stays h g p p0 ts pages m (a / g.store.words) out)
    ];
    uncopied = λ a n e. elim (entry_after h g p p0 ts pages m a) [
      | inl k ↦ absurd (planned_copied (sym k.is ∙ e))
      | inr none ↦ absurd (none_copied n (sym none ∙ e))
    ];
    from = from;
    planned_live = λ a n e. ap (λ w. bit_at g.live w a) m.targets.words ∙ m.targets.live a
        ∙ (goes a n e).1.is_live.live;
    target = λ a n e. let x = (goes a n e).1 in (
      m.targets.objects n ∙ none_there a n x,
      ap (state_at after.store) (page_of n ∙ place_on a n x) ∙ (target_new x.target x.place.0 x.in_target).1,
    );
    planned_once = λ a b n e f. once a b n (goes a n e).1 (goes b n f).1;
    live = live;
    waits = (0, first_waits g.threads threads);
    no_thread = no_thread;
  }
    where
      planned_copied : {x y : ℕ} → Planned x ≡ Copied y → ⊥
      planned_copied z = cc

      none_copied : (n : ℕ) → NoEntry ≡ Copied n → ⊥
      none_copied n z = cc

      from : (a n : ℕ) → (world_of after).side_entry a ≡ Planned n → (world_of after).page_state a ≡ From
      from a n e = ap (state_at after.store) (page_of a)
          ∙ state_emptied h g p p0 ts pages m (a / h.store.words) (goes a n e).0.page

      once : (a b n : ℕ) → Goes a n → Goes b n → a ≡ b
      once a b n x y =
          elim (planned_apart h m.store laid pages m.closed ts m.enough m.targets.once a b n n x y) [
            | inl e ↦ e
            | inr z ↦ elim z [ inl l ↦ absurd (omega (arith, l)) | inr l ↦ absurd (omega (arith, l)) ]
          ]

      live : (a : ℕ) (o : HeapObject) → (world_of after).page_state a ≡ From → object_at g a ≡ Some o
          → (world_of g).live a ≡ true → (n : ℕ) × ((world_of after).side_entry a ≡ Planned n)
      live a o f here bit = elim (in_or_out h g p p0 ts pages m (a / h.store.words)) [
        | inl there ↦ (
          place_of (moves_of h pages ts) a,
          (goes_to h g p p0 ts pages m a there
              (told a (sym (m.targets.live a) ∙ ap (λ w. bit_at g.live w a) (sym m.targets.words) ∙ bit))).is,
        )
        | inr out ↦ absurd (false≢true (sym (m.holds.invariant.phases.idle a (idle h g p p0 ts pages m))
            ∙ ap (λ n. is_protected (state_at g.store n)) (page_of a)
            ∙ ap is_protected (sym (state_stays h g p p0 ts pages m (a / h.store.words) out)
            ∙ ap (state_at after.store) (sym (page_of a)) ∙ f)))
      ]

      threads : 1 ≤ length g.threads
      threads = omega (arith, d.config.threads_low, m.before.sizes.threads, ap length m.targets.threads)

      no_thread : (t : ℕ) → has_crossed (slice_get (map (set_crossed_of false) g.threads) t) ≡ true
          → (world_of g).barrier t ≡ None
      no_thread t e = by_thread (slice_get g.threads t)
          (sym (ap has_crossed (slice_get-map (set_crossed_of false) g.threads t)) ∙ e)
        where
          by_thread : (o : Option ThreadState) → has_crossed (option_map (set_crossed_of false) o) ≡ true
              → barrier_in o ≡ None
          by_thread None f = refl
          by_thread (Some x) f = absurd (cc)

  -- claims

  -- a claim of before, or a planned place
  plans : (a : ℕ) (y : Extent) → extent after (OfPlan a) ≡ Some y
      → (n : ℕ) × (x : Goes a n) × (y ≡ place_extent h m.store laid pages m.closed ts m.enough a n x)
  plans a y e = elim (entry_after h g p p0 ts pages m a) [
    | inl k ↦ (let x = plan_at a k in (
      place_of (moves_of h pages ts) a,
      x,
      sym (same_Some _ _ (sym (ap (λ z. planned_extent z (size_at after a)) k.is
          ∙ ap (λ o. option_map (sized_extent (place_of (moves_of h pages ts) a)) (option_map object_size o))
          (objects_after h g p p0 ts pages m a ∙ m.targets.objects a ∙ x.is_live.here)) ∙ e)),
    ))
    | inr none ↦ absurd (none-some _ (sym (ap (λ z. planned_extent z (size_at after a)) none) ∙ e))
  ]

  claims : (c : Claim) → ((a : ℕ) × (c ≡ OfPlan a)) ⊎ (extent after c ≡ extent g c)
  unfolding with_protected
  claims (OfObject a) = inr (ap (λ o. option_map (sized_extent a) (option_map object_size o))
      (objects_after h g p p0 ts pages m a))
  claims (OfBuffer u) = inr (ap (option_map (buffer_extent g.store.words))
      (kept_of_all buffer_in g.threads (set_crossed_of false) (λ y. refl) u))
  claims (OfPlan a) = inl (a, refl)
  claims (OfEnd n) = inr (page_keeps h g p p0 ts pages m (end_extent g.store.words n) (λ q e. shut q e) n)
    where
      shut : (q : Page) → q.state ≡ Closed
          → end_extent g.store.words n (Some (set_from_of q)) ≡ end_extent g.store.words n (Some q)
      shut q e = sym (ap (λ b. cond b (Some (record {
        from = n * g.store.words + q.top;
        upto = n * g.store.words + g.store.words;
      })) None) (ap is_open e))

  -- a planned place is apart from earlier claims
  plan_apart : (a n : ℕ) (x : Goes a n) (c : Claim) (y : Extent) → extent g c ≡ Some y
      → AreApart (place_extent h m.store laid pages m.closed ts m.enough a n x) y
  plan_apart a n x c y e = elim (m.targets.extents c y e) [
    | inl before ↦ (
        let z = claim_lies h m.store d.buffers laid m.before.invariant.objects c y before in
        pages_apart h.store.words x.target z.page _ y
        (λ q. false≢true (sym (ap (λ t. has_memory (state_at h.store t)) (sym q)
        ∙ ap has_memory (target_new x.target x.place.0 x.in_target).0) ∙ z.memory))
        lies (record { from = z.from; upto = z.upto })
        )
    | inr (t, is, from, upto) ↦ elim (cases_eq x.target t) [
      | inl q ↦ inl (let base : x.target * h.store.words ≡ t * h.store.words = ap (λ k. k * h.store.words) q in
          omega (arith, lies.upto, base, from))
      | inr k ↦ pages_apart h.store.words x.target t _ y k lies
          (record { from = omega (arith, from); upto = omega (arith, upto) })
    ]
  ]
    where
      lies : LiesOn h.store.words x.target (place_extent h m.store laid pages m.closed ts m.enough a n x)
      lies = place_lies h m.store laid pages m.closed ts m.enough a n x

  apart : Apart (extent after)
  apart c b x y e f = by_claims (claims c) (claims b)
    where
      swap : AreApart y x → AreApart x y
      swap (inl z) = inr z
      swap (inr z) = inl z

      one : (a : ℕ) → c ≡ OfPlan a → extent after b ≡ extent g b → AreApart x y
      one a is same =
          let (n, w, at) = plans a x (ap (extent after) (sym is) ∙ e) in
          subst (λ z. AreApart z y) (sym at) (plan_apart a n w b y (sym same ∙ f))

      other : (a : ℕ) → b ≡ OfPlan a → extent after c ≡ extent g c → AreApart y x
      other a is same =
          let (n, w, at) = plans a y (ap (extent after) (sym is) ∙ f) in
          subst (λ z. AreApart z x) (sym at) (plan_apart a n w c x (sym same ∙ e))

      both : (a k : ℕ) → c ≡ OfPlan a → b ≡ OfPlan k → (c ≡ b) ⊎ AreApart x y
      both a k is also =
          let (n, w, at) = plans a x (ap (extent after) (sym is) ∙ e) in
          let (l, v, to) = plans k y (ap (extent after) (sym also) ∙ f) in
          elim (planned_apart h m.store laid pages m.closed ts m.enough m.targets.once a k n l w v) [
            | inl same ↦ inl (is ∙ ap OfPlan same ∙ sym also)
            | inr z ↦ inr (subst (λ u. AreApart u y) (sym at)
                (subst (AreApart (place_extent h m.store laid pages m.closed ts m.enough a n w)) (sym to) z))
          ]

      by_claims : ((a : ℕ) × (c ≡ OfPlan a)) ⊎ (extent after c ≡ extent g c)
          → ((a : ℕ) × (b ≡ OfPlan a)) ⊎ (extent after b ≡ extent g b) → (c ≡ b) ⊎ AreApart x y
      by_claims (inl (a, is)) (inl (k, also)) = both a k is also
      by_claims (inl (a, is)) (inr same) = inr (one a is same)
      by_claims (inr same) (inl (a, is)) = inr (swap (other a is same))
      by_claims (inr one) (inr two) = m.holds.laid.apart c b x y (sym one ∙ e) (sym two ∙ f)

  -- memory

  rows : (xs : List (List Bool)) → AreRowsOf g.store xs → AreRowsOf after.store xs
  unfolding with_protected
  rows xs r = r ∙ sym (protected_rows g.store.words pages g.store.pages
      (λ i n e. ap is_unused (used_there g.store n Closed (still n (at_in n pages i e)) closed_unused).1))
    where
      still : (n : ℕ) → IsIn n pages → state_at g.store n ≡ Closed
      still n there = elim (m.targets.old n) [
        | inl new ↦ absurd (closed_unused (sym (m.closed n there) ∙ (m.targets.new n new).0))
        | inr same ↦ same ∙ m.closed n there
      ]

  memory : (a : ℕ) → has_memory ((world_of after).page_state a) ≡ has_memory ((world_of g).page_state a)
  unfolding state_at with_protected
  memory a = page_keeps h g p p0 ts pages m (λ o. has_memory (state_in o))
      (λ q e. ap has_memory (sym e)) (a / g.store.words)

  -- the offsets of a forwarding table rise
  rising : (i : ℕ) (fs : List Forwarding) → slice_get after.sides i ≡ Some fs → AreRising g.store.words 0 fs
  unfolding side_of live_offsets with_protected
  rising i fs e = elim (in_or_out h g p p0 ts pages m (suc i)) [
    | inl there ↦ subst (AreRising g.store.words 0) (sym (side_after h g p p0 ts pages m (suc i) there) ∙ read)
        (subst (λ w. AreRising w 0 (side_of h (moves_of h pages ts) (suc i))) (sym m.targets.words)
        (side_rises h.store.words 0 (of_page h.live (suc i))
        (λ o. place_of (moves_of h pages ts) (suc i * h.store.words + o)) (long (slice_get h.live i) refl)))
    | inr out ↦ by_old (slice_get g.sides i) refl
        (sym (sym (list_read g.sides i) ∙ sym (side_stays h g p p0 ts pages m (suc i) out) ∙ read))
  ]
    where
      read : of_page after.sides (suc i) ≡ fs
      read = list_read after.sides i ∙ ap list_of e

      long : (o : Option (List Bool)) → slice_get h.live i ≡ o → 0 + length (of_page h.live (suc i)) ≤ h.store.words
      long None z = omega (arith, ap length (list_read h.live i ∙ ap list_of z))
      long (Some row) z =
          omega (arith, ap length (list_read h.live i ∙ ap list_of z), row_short h.store h.live i row laid.live z)

      by_old : (o : Option (List Forwarding)) → slice_get g.sides i ≡ o → fs ≡ list_of (slice_get g.sides i)
          → AreRising g.store.words 0 fs
      by_old None z same = subst (AreRising g.store.words 0) (sym (same ∙ ap list_of z)) tt
      by_old (Some x) z same =
          subst (AreRising g.store.words 0) (sym (same ∙ ap list_of z)) (m.holds.laid.sides.rising i x z)

  protected_laid : IsLaid after
  unfolding with_protected
  protected_laid = record {
    starts = rows g.starts l.starts;
    live = rows g.live l.live;
    mark = rows g.mark l.mark;
    todo = rows g.todo l.todo;
    sides = record {
      pages = sides_many h (moves_of h pages ts) pages g.sides ∙ l.sides.pages ∙ sym (pages_many pages g.store.pages);
      rising = rising;
    };
    registers = each_of_all (λ y. length y.registers ≡ g.config.registers) g.threads (set_crossed_of false)
        (λ y e. e) l.registers;
    objects = λ a e k. let (o, is) = l.objects a e (sym (memory a) ∙ k) in
        (o, objects_after h g p p0 ts pages m a ∙ is);
    apart = apart;
    planned = λ a n q e f. fits a n q (goes a n e).1 (sym (m.targets.objects a)
        ∙ sym (objects_after h g p p0 ts pages m a) ∙ f);
    live_objects = λ a e k. let (o, is) = l.live_objects a e (sym (memory a) ∙ k) in
        (o, objects_after h g p p0 ts pages m a ∙ is);
    unused = λ a e. l.unused a (elim (in_or_out h g p p0 ts pages m (a / g.store.words)) [
      | inl there ↦ absurd (no (sym (state_emptied h g p p0 ts pages m (a / g.store.words) there) ∙ e))
      | inr out ↦ sym (state_stays h g p p0 ts pages m (a / g.store.words) out) ∙ e
    ]);
  }
    where
      l : IsLaid g
      l = m.holds.laid

      no : From ≡ Unused → ⊥
      no z = cc

      fits : (a n : ℕ) (q : HeapObject) (x : Goes a n) → object_at h a ≡ Some q
          → n % g.store.words + object_size q ≤ g.store.words
      fits a n q x f =
          let same : x.is_live.object ≡ q = same_Some _ _ (sym x.is_live.here ∙ f) in
          let offset : n % g.store.words ≡ x.place.1 = ap (λ w. n % w) m.targets.words
          ∙ ap (λ z. z % h.store.words) (sym x.is)
          ∙ mod-mul-add x.target h.store.words x.place.1 (omega (arith, x.room)) in
          omega (arith, offset, x.room, ap object_size same, m.targets.words)

  -- the edit

  protected_world : world_of after ≡ protect_pages (world_of after).page_state (world_of after).side_entry
      (world_of after).crossed (world_of g)
  unfolding register_of with_protected
  protected_world = λ z. record (world_of g) {
    page_state = (world_of after).page_state;
    object_at = fun_ext (objects_after h g p p0 ts pages m) z;
    side_entry = (world_of after).side_entry;
    register = fun_ext (λ u. fun_ext
        (λ r. kept_of_all (λ o. as_word (register_in o r)) g.threads (set_crossed_of false) (λ y. refl) u)) z;
    crossed = (world_of after).crossed;
    parked = fun_ext (kept_of_all is_parked_in g.threads (set_crossed_of false) (λ y. refl)) z;
    barrier = fun_ext (kept_of_all barrier_in g.threads (set_crossed_of false) (λ y. refl)) z;
    phase = ProtectCrossing;
  }

  protected_given : Each g.store.pages HasGiven → Each after.store.pages HasGiven
  unfolding with_protected
  protected_given z i q e is_so = elim (pages_read pages g.store.pages i (positive h g p p0 ts pages m)) [
    | inl (there, is) ↦ absurd (by_page (slice_get g.store.pages i) (sym is ∙ e))
    | inr (out, same) ↦ z i q (sym same ∙ e) is_so
  ]
    where
      by_page : (o : Option Page) → option_map set_from_of o ≡ Some q → ⊥
      by_page None k = absurd (cc)
      by_page (Some x) k =
          absurd (false≢true (ap (λ (y : Page). is_open y.state) (same_Some _ _ k) ∙ is_so))

  protected_carries : Carries g after (protect_pages (world_of after).page_state (world_of after).side_entry
      (world_of after).crossed)
  unfolding with_protected
  protected_carries = record {
    size = alike g after refl refl refl refl (length-map g.threads (set_crossed_of false)) refl refl;
    laid = λ z. protected_laid;
    given = protected_given;
    words = λ z. record {
      threads = each_of_all (HoldsWords g.config.registers) g.threads (set_crossed_of false)
          (λ y e. record { registers_hold = e.registers_hold; barrier = e.barrier }) z.threads;
      globals = z.globals;
    };
    world = protected_world;
  }

  -- the heap represents what it did
  pub protected_holds : Holds after p p0
  protected_holds = step_by m.holds protected_carries (stays g p) (Protect _ _ _ may_protect)

-- the outcome

module _ {h : HeapState} {p p0 : PlainHeap} (s : IsStore h.store) (d : IsHeap h) (k : Holds h p p0) (w : ℕ) where
  -- pages are protected
  pub protect_holds : (pages : List ℕ) → RowHolds h p p0 (Worker w) (steps.Protect pages) (protect_outcome h pages)
  unfolding protect_outcome protect with_protected plain_step plain_answer
  protect_holds pages = on_has (refuse_if (not (is_idle h.phase)) refusals.Phase) _ _ _ (idle_is h.phase) (λ u idle.
      on_has (all_ripe h pages) _ _ _ (all_closed h pages) (λ v closed.
      on_has (room_for h.store (target_count (plan_of h pages))) _ _ _
      (has_room h (target_count (plan_of h pages))) (λ z room.
      let x = targets_hold (target_count (plan_of h pages)) h p p0 s d.buffers k room.frames room.pages in
      record {
        config = config (with_targets (target_count (plan_of h pages)) h) x.targets.config;
        holds = protected_holds h _ p p0 _ pages d (record {
          store = s;
          before = k;
          targets = x.targets;
          holds = x.holds;
          idle = idle;
          closed = closed;
          enough = x.many;
        });
        answers = tt;
      })))
    where
      config : (x : HeapState × List ℕ) → x.0.config ≡ h.config → (protect_with h pages x).config ≡ h.config
      config x e = e
