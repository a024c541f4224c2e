-- What an accepted step has passed: the general tests, and those of its own outcome.
use Rattle.std.proofs.Common.{◌≡◌, ◌⊎◌, inl, inr, ℕ, ◌+◌, ◌/◌, ◌%◌, ◌<◌, ◌≤◌, ◌&&◌, ◌||◌, arith, Bool, true, false, not}
use Rattle.std.proofs.Common.{cond, length, nat_le, nat_lt, Option, Some, None, refl, sym, ◌∙◌, ap}
use Rattle.std.specs.Prelude.{Ok}
use Rattle.std.specs.List.{slice_get}
use Rattle.std.specs.Option.{option_and_then, option_map}
use Rattle.std.proofs.lemmas.Bool.{or_parts, leb-false, ltb-true, ltb-false, false≢true}
use Rattle.model.specs.declared.steps.Step.{Step}
use Rattle.model.specs.declared.records.Phase.{Phase}
use Rattle.model.specs.declared.records.Phase.TheVariants.{Idle, MarkCrossing, Scanning, ProtectCrossing, Relocating}
use Rattle.model.specs.Stores.{state_at, is_protected}
use Rattle.model.specs.States.{HeapState, ThreadState, Reference}
use Rattle.model.specs.Registers.{register_of, usable, use_word, usable_or_null, use_or_null, let_through, held_back}
use Rattle.model.specs.Data.{layout_at, layout_in, header_layout, datum_address, datum_at, datum_place}
use Rattle.model.specs.References.{field_address, field_at, field_place}
use Rattle.model.specs.Outcome.{thread_gate, worker_gate, has_bad_index, is_for_workers, no_register, no_global}
use Rattle.model.specs.Outcome.{is_for_parked, is_for_loading, is_loading_in}
use Rattle.model.specs.Threads.{is_parked_in, has_crossed}
use Rattle.model.proofs.Lists.{get_within, no_some}
use Rattle.model.proofs.Memory.{word_on_page}
use Rattle.laws.specs.AddressHeap.{HeapObject}
use Rattle.laws.specs.Transitions.{IsUsable}
use Rattle.refinement.specs.Worlds.{world_of, object_at, as_barrier, barrier_in}
use Rattle.refinement.proofs.Accepted.{OnAccepted, on_has, on_test}
use Rattle.refinement.proofs.ObjectWords.{read_refs, read_data}
use Rattle.refinement.proofs.Objects.{IsThere, there}

-- the general tests

pub record Passed (h : HeapState) (t : ℕ) (s : Step) : Type 0 where
  pub thread : ThreadState
  pub there : slice_get h.threads t ≡ Some thread
  pub indices : has_bad_index h s ≡ false
  pub awake : is_for_parked s ≡ false → thread.parked ≡ false
  pub closed : is_for_loading s ≡ false → thread.barrier ≡ None

pub first_false : (a b : Bool) → a || b ≡ false → a ≡ false
first_false a b e = (or_parts a b e).0

pub second_false : (a b : Bool) → a || b ≡ false → b ≡ false
second_false a b e = (or_parts a b e).1

-- a test that only some steps pass
unless : (a b : Bool) → a && not b ≡ false → b ≡ false → a ≡ false
unless false b e f = refl
unless true true e f = absurd (cc)
unless true false e f = absurd (cc)

pub passed : (h : HeapState) (t : ℕ) (s : Step) → OnAccepted (λ (u : Unit {0}). Passed h t s) (thread_gate h t s)
unfolding thread_gate
passed h t s = on_test (nat_le (length h.threads) t || is_for_workers s) _ _ _ (λ a.
    on_test (has_bad_index h s) _ _ _ (λ b.
    on_test (is_parked_in (slice_get h.threads t) && not (is_for_parked s)) _ _ _ (λ c.
    on_test (is_loading_in (slice_get h.threads t) && not (is_for_loading s)) _ _ _ (λ d.
    let (y, at) = get_within h.threads t
    (leb-false (length h.threads) t (first_false (nat_le (length h.threads) t) (is_for_workers s) a)) in
    record {
      thread = y;
      there = at;
      indices = b;
      awake = λ f. ap is_parked_in (sym at) ∙ unless (is_parked_in (slice_get h.threads t)) (is_for_parked s) c f;
      closed = λ f. no_some y.barrier
          (ap is_loading_in (sym at) ∙ unless (is_loading_in (slice_get h.threads t)) (is_for_loading s) d f);
    }))))

-- the general tests of a worker's step
pub record WorkerPassed (h : HeapState) (w : ℕ) (s : Step) : Type 0 where
  pub worker : w < length h.workers
  pub indices : has_bad_index h s ≡ false

pub worker_passed : (h : HeapState) (w : ℕ) (s : Step)
    → OnAccepted (λ (u : Unit {0}). WorkerPassed h w s) (worker_gate h w s)
unfolding worker_gate
worker_passed h w s = on_test (nat_le (length h.workers) w || not (is_for_workers s)) _ _ _ (λ a.
    on_test (has_bad_index h s) _ _ _ (λ b. record {
      worker = leb-false (length h.workers) w (first_false (nat_le (length h.workers) w) (not (is_for_workers s)) a);
      indices = b;
    }))

pub is_thread : (h : HeapState) (t : ℕ) → nat_le (length h.threads) t ≡ false → t < length h.threads
is_thread h t e = leb-false (length h.threads) t e

pub is_register : (h : HeapState) (r : ℕ) → no_register h r ≡ false → r < h.config.registers
unfolding no_register
is_register h r e = leb-false h.config.registers r e

pub is_global : (h : HeapState) (g : ℕ) → no_global h g ≡ false → g < length h.globals
unfolding no_global
is_global h g e = leb-false (length h.globals) g e

-- a thread that isn't loading has no barrier in the address-level model
pub closed_barrier : {h : HeapState} {t : ℕ} {s : Step} (g : Passed h t s) → is_for_loading s ≡ false
    → (world_of h).barrier t ≡ None
closed_barrier g e = ap barrier_in g.there ∙ ap (option_map as_barrier) (g.closed e)

-- registers that may be used

pub record IsUsed (h : HeapState) (t r a : ℕ) : Type 0 where
  pub bit : Bool
  pub word : register_of h t r ≡ Some (a, bit)
  pub usable : IsUsable (world_of h) t a

held : (A : Type 0) (p : Phase) (c : Bool)
    → OnAccepted (λ (u : Unit {0}). A → (p ≡ ProtectCrossing) × (c ≡ false)) (held_back p c)
held A ProtectCrossing false = λ x. (refl, refl)
held A ProtectCrossing true = tt
held A Idle c = tt
held A MarkCrossing c = tt
held A Scanning c = tt
held A Relocating c = tt

through : (h : HeapState) (t a : ℕ) → OnAccepted (λ (u : Unit {0}). IsUsable (world_of h) t a) (let_through h t a)
unfolding let_through
through h t a = by_test (is_protected (state_at h.store (a / h.store.words))) refl
  where
    by_test : (b : Bool) → is_protected (state_at h.store (a / h.store.words)) ≡ b
        → OnAccepted (λ (u : Unit {0}). IsUsable (world_of h) t a)
        (cond b (held_back h.phase (has_crossed (slice_get h.threads t))) (Ok tt))
    by_test true e = held _ h.phase (has_crossed (slice_get h.threads t))
    by_test false e = λ f. absurd (false≢true (sym e ∙ f))

pub used : (h : HeapState) (t r : ℕ) → OnAccepted (IsUsed h t r) (usable h t r)
unfolding usable
used h t r = by_word (register_of h t r) refl
  where
    by_word : (w : Reference) → register_of h t r ≡ w → OnAccepted (IsUsed h t r) (use_word h t w)
    by_word None e = tt
    by_word (Some w) e = on_has (let_through h t w.0) _ _ _ (through h t w.0)
        (λ u may. record { bit = w.1; word = e; usable = may })

-- a register that is null, or may be used
abbrev pub NullOrUsed : HeapState → ℕ → ℕ → Option ℕ → Type 0
NullOrUsed h t r o = ((o ≡ None) × (register_of h t r ≡ None)) ⊎ ((a : ℕ) × (o ≡ Some a) × IsUsed h t r a)

pub null_or_used : (h : HeapState) (t r : ℕ) → OnAccepted (NullOrUsed h t r) (usable_or_null h t r)
unfolding usable_or_null
null_or_used h t r = by_word (register_of h t r) refl
  where
    by_word : (w : Reference) → register_of h t r ≡ w → OnAccepted (NullOrUsed h t r) (use_or_null h t w)
    by_word None e = inl (refl, e)
    by_word (Some w) e = on_has (let_through h t w.0) _ _ _ (through h t w.0)
        (λ u may. inr (w.0, refl, record { bit = w.1; word = e; usable = may }))

-- data

-- the layout of an object that exists
pub shape_there : (h : HeapState) (a : ℕ) (q : HeapObject) (t : IsThere h a q) → layout_at h a ≡ Some t.read.shape
unfolding layout_at
shape_there h a q t = ap (λ o. layout_in h.config.layouts (header_layout o)) (word_on_page h.store a
    ∙ ap (option_and_then (λ ws. slice_get ws (a % h.store.words))) t.page ∙ t.read.at) ∙ t.read.known

-- the place of a reference of an object
pub field_there : (h : HeapState) (a : ℕ) (q : HeapObject) (e : object_at h a ≡ Some q) (i place : ℕ)
    → field_at h a i ≡ Some place → (i < length q.refs) × (a + (1 + i) ≡ place)
unfolding field_at
field_there h a q e i place f =
    by_test (nat_lt i t.read.shape.refs) refl (sym (ap (field_place a i) (shape_there h a q t)) ∙ f)
  where
    t : IsThere h a q
    t = there h a q e

    by_test : (b : Bool) → nat_lt i t.read.shape.refs ≡ b → cond b (Some (field_address a i)) None ≡ Some place
        → (i < length q.refs) × (a + (1 + i) ≡ place)
    by_test false f k = absurd (cc)
    by_test true f k =
        let spot : a + 1 + i ≡ place = cc in
        let low = ltb-true i t.read.shape.refs f in
        let refs = read_refs h.config.layouts t.words (a % h.store.words) q t.read in
        (omega (arith, low, refs), omega (arith, spot))

-- an object has no reference after its last
pub field_past : (h : HeapState) (a : ℕ) (q : HeapObject) (e : object_at h a ≡ Some q) (i : ℕ) → field_at h a i ≡ None
    → length q.refs ≤ i
unfolding field_at
field_past h a q e i f = by_test (nat_lt i t.read.shape.refs) refl (sym (ap (field_place a i)
    (shape_there h a q t)) ∙ f)
  where
    t : IsThere h a q
    t = there h a q e

    by_test : (b : Bool) → nat_lt i t.read.shape.refs ≡ b → cond b (Some (field_address a i)) None ≡ None
        → length q.refs ≤ i
    by_test true f k = absurd (cc)
    by_test false f k = omega (
      arith,
      ltb-false i t.read.shape.refs f,
      read_refs h.config.layouts t.words (a % h.store.words) q t.read,
    )

-- the place of a datum of an object
pub datum_there : (h : HeapState) (a : ℕ) (q : HeapObject) (e : object_at h a ≡ Some q) (j place : ℕ)
    → datum_at h a j ≡ Some place → (j < length q.data_words) × (a + (1 + length q.refs + j) ≡ place)
unfolding datum_at
datum_there h a q e j place f =
    by_test (nat_lt j t.read.shape.nums) refl (sym (ap (datum_place a j) (shape_there h a q t)) ∙ f)
  where
    t : IsThere h a q
    t = there h a q e

    by_test : (b : Bool)
        → nat_lt j t.read.shape.nums ≡ b → cond b (Some (datum_address a t.read.shape j)) None ≡ Some place
        → (j < length q.data_words) × (a + (1 + length q.refs + j) ≡ place)
    by_test false f k = absurd (cc)
    by_test true f k =
        let spot : a + 1 + t.read.shape.refs + j ≡ place = cc in
        let low = ltb-true j t.read.shape.nums f in
        let refs = read_refs h.config.layouts t.words (a % h.store.words) q t.read in
        let nums = read_data h.config.layouts t.words (a % h.store.words) q t.read in
        (omega (arith, low, nums), omega (arith, refs, spot))

-- an object has no datum after its last
pub datum_past : (h : HeapState) (a : ℕ) (q : HeapObject) (e : object_at h a ≡ Some q) (j : ℕ) → datum_at h a j ≡ None
    → length q.data_words ≤ j
unfolding datum_at
datum_past h a q e j f = by_test (nat_lt j t.read.shape.nums) refl (sym (ap (datum_place a j)
    (shape_there h a q t)) ∙ f)
  where
    t : IsThere h a q
    t = there h a q e

    by_test : (b : Bool) → nat_lt j t.read.shape.nums ≡ b
        → cond b (Some (datum_address a t.read.shape j)) None ≡ None → length q.data_words ≤ j
    by_test true f k = absurd (cc)
    by_test false f k = omega (
      arith,
      ltb-false j t.read.shape.nums f,
      read_data h.config.layouts t.words (a % h.store.words) q t.read,
    )
