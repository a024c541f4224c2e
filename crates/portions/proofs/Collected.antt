-- Collections in a portion: they neither begin a load nor park a thread or let it run, and all threads can cross the
-- checkpoint that they leave open.
use Rattle.std.proofs.Common.{◌≡◌, ◌∙◌, ℕ, ◌+◌, Bool, true, false, List, [], ◌∷◌, ◌++◌, refl, sym, subst, ap, inl, inr}
use Rattle.std.proofs.Common.{Option, Some, None, ◌/◌, arith, cond, not}
use Rattle.std.specs.Prelude.{Result, Ok, Err}
use Rattle.std.specs.List.{slice_get}
use Rattle.std.proofs.lemmas.Bool.{true≢false, not-true}
use Rattle.model.specs.declared.records.Phase.{Phase}
use Rattle.model.specs.declared.records.Phase.TheVariants.{Idle, MarkCrossing, Scanning, ProtectCrossing, Relocating}
use Rattle.model.specs.declared.steps.Actor.{Actor}
use Rattle.model.specs.declared.steps.Actor.TheVariants.{Thread, Worker}
use Rattle.model.specs.declared.steps.Answer.{Answer}
use Rattle.model.specs.declared.steps.Refusal.{Refusal}
use Rattle.model.specs.declared.steps.Refusal.TheVariants as refusals
use Rattle.model.specs.declared.steps.Step.{Step}
use Rattle.model.specs.declared.steps.Step.TheVariants as steps
use Rattle.model.specs.Checkpoints.{all_crossed, first_behind, none_behind}
use Rattle.model.specs.Outcome.{outcome}
use Rattle.model.specs.Phases.{is_crossing}
use Rattle.model.specs.Saying.{done}
use Rattle.model.specs.Registers.{held_back, let_through}
use Rattle.model.specs.States.{HeapState, ThreadState}
use Rattle.model.specs.Stores.{is_protected, state_at}
use Rattle.model.specs.Threads.{has_crossed}
use Rattle.model.proofs.Lists.{position_finds, position_passes}
use Rattle.refinement.proofs.Crossings.{none_is_behind}
use Rattle.model.specs.declared.steps.Answer.TheVariants as answers
use Rattle.managed.specs.declared.batches.FieldLoad.{FieldLoad}
use Rattle.managed.specs.declared.batches.LoadsFault.{LoadsFault}
use Rattle.managed.specs.Batches.{EndsFilling, EndsLoads, fill_steps, fill_test, set_steps, store_steps}
use Rattle.managed.specs.Collecting.{IsCollecting}
use Rattle.managed.specs.Bytes.{EndsWritingBytes}
use Rattle.managed.specs.Data.{EndsCopying, EndsWriting, set_entries}
use Rattle.managed.specs.Goings.{AllTried, Goes, IsCrossing, IsStuck, StandsForSame, Steps}
use Rattle.managed.specs.Managing.{Promises}
use Rattle.managed.specs.Runs.{Leads}
use Rattle.collecting.specs.Collections.{Collects, WORKER}
use Rattle.collecting.specs.Filling.{AfterTest, EndsMakingWith, MakesAndFills}
use Rattle.collecting.specs.Rooms.{EndsMaking, IsRefill, MakingStands, Refills}
use Rattle.portions.specs.Apart.{IsApart, RunsAlone}
use Rattle.portions.specs.Portions.{NeverStalls}
use Rattle.portions.proofs.Doing.{does_apart, goes_stay}
use Rattle.portions.proofs.Loads.{load_apart}
use Rattle.portions.proofs.Parking.{alone_stays, is_false}
use Rattle.portions.proofs.Rows.{disturbs, step_stays, turns}

-- ---- kinds of steps

pub collecting_stay : (w : ℕ) (a : Actor) (s : Step) → IsCollecting w a s → disturbs a s ≡ false
collecting_stay w (Thread t) steps.Cross k = refl
collecting_stay w (Thread t) (steps.Scrub r) k = refl
collecting_stay w (Thread t) _ k = absurd k
collecting_stay w (Worker v) s k = refl

pub crossing_stay : (w : ℕ) (a : Actor) (s : Step) → IsCrossing w a s → disturbs a s ≡ false
crossing_stay w (Thread t) steps.Cross k = refl
crossing_stay w (Thread t) _ k = absurd k
crossing_stay w (Worker v) s k = refl

pub refill_stay : (t : ℕ) (a : Actor) (s : Step) → IsRefill t a s → disturbs a s ≡ false
refill_stay t (Thread u) (steps.Take n) k = refl
refill_stay t (Thread u) steps.GiveBack k = refl
refill_stay t (Thread u) steps.Cross k = refl
refill_stay t (Thread u) (steps.Scrub r) k = refl
refill_stay t (Thread u) _ k = absurd k
refill_stay t (Worker v) s k = refl

-- ---- thread t runs alone, after such steps too

pub alone_by : (P : Actor → Step → Type 0) (t : ℕ) → ((a : Actor) (s : Step) → P a s → disturbs a s ≡ false)
    → (h g : HeapState) → Goes P h g → RunsAlone h t → RunsAlone g t
alone_by P t e h g k a = alone_stays h g t (goes_stay P e h g k) a

-- ---- a checkpoint is closed

all_have_crossed : (ts : List ThreadState) → none_behind (first_behind ts) ≡ Ok tt → (t : ℕ)
    → has_crossed (slice_get ts t) ≡ true
all_have_crossed ts e t = none_is_behind ts (by_found (first_behind ts) e) t
  where
    by_found : (o : Option ℕ) → none_behind o ≡ Ok tt → o ≡ None
    by_found None f = refl
    by_found (Some u) f = absurd (cc)

-- if all threads could cross, they have, and no checkpoint is open
pub crossed_all : (g : HeapState) (t : ℕ) (r : Result Unit Refusal) → r ≡ all_crossed g → AllTried WORKER r g
    → Promises g → RunsAlone g t → is_crossing g.phase ≡ false
unfolding all_crossed
crossed_all g t (Ok u) e k p a = is_false (is_crossing g.phase) (λ f.
    let w = p.holds.invariant.phases.waits f in
    true≢false (sym (all_have_crossed g.threads (sym e) w.0) ∙ w.1))
crossed_all g t (Err n) e k p a = by_stuck k.2
  where
    by_stuck : IsStuck WORKER g k.0 → is_crossing g.phase ≡ false
    by_stuck (inl loading) = absurd (true≢false (sym loading ∙ a.closed k.0))
    by_stuck (inr (inl parked)) = absurd (omega (arith, parked.1, p.holds.sizes.workers, a.workers))
    by_stuck (inr (inr closed)) = closed

pub still_open : (h : HeapState) (t : ℕ) → RunsAlone h t → is_crossing h.phase ≡ false → IsApart h t
still_open h t a e = record { phase = e; runs = a }

-- ---- nothing delays the thread

pub never_stalls : (h : HeapState) (t : ℕ) → is_crossing h.phase ≡ false → NeverStalls h t
unfolding let_through
never_stalls h t e a = by_page (is_protected (state_at h.store (a / h.store.words)))
  where
    by_phase : (f : Phase) (c : Bool) → is_crossing f ≡ false → held_back f c ≡ Err refusals.Stall → ⊥
    by_phase ProtectCrossing c i j = absurd (true≢false i)
    by_phase Idle c i j = absurd (cc)
    by_phase MarkCrossing c i j = absurd (true≢false i)
    by_phase Scanning c i j = absurd (cc)
    by_phase Relocating c i j = absurd (cc)

    passed : Result (Unit {0}) Refusal
    passed = Ok tt

    by_page : (b : Bool) → cond b (held_back h.phase (has_crossed (slice_get h.threads t))) passed ≡ Err refusals.Stall
        → ⊥
    by_page true j = by_phase h.phase (has_crossed (slice_get h.threads t)) e j
    by_page false j = absurd (cc)

one_is_behind : (ts : List ThreadState) (t : ℕ) → first_behind ts ≡ Some t → has_crossed (slice_get ts t) ≡ false
unfolding first_behind
one_is_behind ts t e =
    let (x, at) = position_finds (λ (y : ThreadState). not y.crossed) ts t e in
    ap has_crossed at ∙ not-true x.crossed (position_passes (λ (y : ThreadState). not y.crossed) ts t x e at)

pub none_waits : (h : HeapState) → is_crossing h.phase ≡ false → Promises h → all_crossed h ≡ Ok tt
unfolding all_crossed
none_waits h e p = by_found (first_behind h.threads) refl
  where
    by_found : (o : Option ℕ) → first_behind h.threads ≡ o → none_behind o ≡ Ok tt
    by_found None f = refl
    by_found (Some u) f = absurd (true≢false (sym (p.holds.invariant.phases.crossed e u) ∙ one_is_behind h.threads u f))

-- ---- calls of several steps

accepted_step : (actor : Actor) (step : Step) (a : Answer) (h g : HeapState) → Steps actor step a h g
    → outcome h actor step ≡ Ok (g, a)
accepted_step actor step a h g k = subst (λ (x : HeapState). outcome h actor step ≡ Ok (x, a)) (sym k.steps.2) k.steps.1

pub step_alone : (t : ℕ) (step : Step) (a : Answer) (h g : HeapState) → disturbs (Thread t) step ≡ false
    → Steps (Thread t) step a h g → RunsAlone h t → RunsAlone g t
step_alone t step a h g e k z =
    alone_stays h g t (step_stays h (Thread t) step g a e (accepted_step (Thread t) step a h g k)) z

pub refills_alone : (t : ℕ) (h g : HeapState) → Refills t h g → RunsAlone h t → RunsAlone g t
refills_alone t h g = alone_by (IsRefill t) t (refill_stay t) h g

pub collects_alone : (t : ℕ) (h g : HeapState) → Collects h g → RunsAlone h t → RunsAlone g t
collects_alone t h g = alone_by (IsCollecting WORKER) t (collecting_stay WORKER) h g

pub making_alone : (t n percent target layout : ℕ) (h g : HeapState) (r : Result ℕ Refusal)
    → EndsMaking t n percent target layout h r g → RunsAlone h t → RunsAlone g t
making_alone t n percent target layout h g (Ok x) k z = step_alone t (steps.New target layout) (answers.Birth x) k.0 g
    refl k.2 (refills_alone t h k.0 k.1 z)
making_alone t n percent target layout h g (Err e) k z = refills_alone t h g k.0 z

-- steps of these neither begin a load nor move the phase
abbrev AreQuiet : List Step → Type 0
AreQuiet [] = Unit {0}
AreQuiet (s ∷ ss) = (turns s ≡ false) × AreQuiet ss

stores_quiet : (object i : ℕ) (sources : List ℕ) → AreQuiet (store_steps object i sources)
stores_quiet object i [] = tt
stores_quiet object i (s ∷ ss) = (refl, stores_quiet object (i + 1) ss)

sets_quiet : (object j : ℕ) (nums : List ℕ) → AreQuiet (set_steps object j nums)
sets_quiet object j [] = tt
sets_quiet object j (x ∷ xs) = (refl, sets_quiet object (j + 1) xs)

append_quiet : (ss rs : List Step) → AreQuiet ss → AreQuiet rs → AreQuiet (ss ++ rs)
append_quiet [] rs a b = b
append_quiet (s ∷ ss) rs a b = (a.0, append_quiet ss rs a.1 b)

quiet_disturbs : (t : ℕ) (s : Step) → turns s ≡ false → disturbs (Thread t) s ≡ false
quiet_disturbs t steps.Cross e = refl
quiet_disturbs t s e = e

filling_alone : (t : ℕ) (ss : List Step) (h g : HeapState) (r : Result Unit Refusal) → AreQuiet ss
    → EndsFilling t ss h r g → RunsAlone h t → RunsAlone g t
filling_alone t [] h g r q k z = subst (λ (x : HeapState). RunsAlone x t) (sym k.1) z
filling_alone t (s ∷ ss) h g r q (inl k) z = filling_alone t ss k.0 g r q.1 k.2
    (step_alone t s answers.Done h k.0 (quiet_disturbs t s q.0) k.1 z)
filling_alone t (s ∷ ss) h g r q (inr k) z = subst (λ (x : HeapState). RunsAlone x t) (sym k.3) z

pub making_with_alone : (t n percent target layout : ℕ) (sources nums : List ℕ) (h g : HeapState)
    (r : Result ℕ Refusal) → EndsMakingWith t n percent target layout sources nums h r g → RunsAlone h t → RunsAlone g t
making_with_alone t n percent target layout sources nums h g r k z =
    by_test (fill_test h t target layout sources nums) k
  where
    quiet : AreQuiet (fill_steps target sources nums)
    quiet = append_quiet (store_steps target 0 sources) (set_steps target 0 nums) (stores_quiet target 0 sources)
        (sets_quiet target 0 nums)

    by_result : (r : Result ℕ Refusal) → MakesAndFills t n percent target layout sources nums h r g → RunsAlone g t
    by_result (Ok x) y = filling_alone t (fill_steps target sources nums) y.0 g (Ok tt) quiet y.2
        (making_alone t n percent target layout h y.0 (Ok x) y.1.0 z)
    by_result (Err e) (inl y) = making_alone t n percent target layout h g (Err e) y.0 z
    by_result (Err e) (inr y) = filling_alone t (fill_steps target sources nums) y.0 g (Err e) quiet y.3
        (making_alone t n percent target layout h y.0 (Ok y.1) y.2.0 z)

    by_test : (x : Result Unit Refusal)
        → AfterTest x (MakesAndFills t n percent target layout sources nums) h r g → RunsAlone g t
    by_test (Ok u) y = by_result r y
    by_test (Err e) y = subst (λ (x : HeapState). RunsAlone x t) (sym y.1) z

-- ---- several loads

pub loads_apart : (t object n : ℕ) (ls : List FieldLoad) (h g : HeapState) (r : Result Unit LoadsFault)
    → EndsLoads t object n ls h r g → IsApart h t → IsApart g t
loads_apart t object n [] h g r k a = subst (λ (x : HeapState). IsApart x t) (sym k.1) a
loads_apart t object n (l ∷ ls) h g r (inl k) a = loads_apart t object (n + 1) ls k.0 g r k.2
    (load_apart h k.0 t (steps.Load l.target object l.field) (Ok tt) refl k.1.0 a)
loads_apart t object n (l ∷ ls) h g r (inr k) a =
    load_apart h g t (steps.Load l.target object l.field) (Err k.0) refl k.1.0 a

-- ---- the promises of a new object, after crossings too

pub making_stands : (t target layout : ℕ) (h m g : HeapState) (r : Result ℕ Refusal)
    → MakingStands t target layout h r m → StandsForSame m g → MakingStands t target layout h r g
making_stands t target layout h m g (Ok x) k s = λ p p0 holds.
    let y = k p p0 holds in
    (y.0, s.same _ y.0 y.1, y.2)
making_stands t target layout h m g (Err e) k s = λ p p0 holds.
    let y = k p p0 holds in
    (y.0, s.same p y.0 y.1)

-- ---- several data words

entries_apart : (t object j : ℕ) (values : List ℕ) (h g : HeapState) → Leads h (set_entries t object j values) g
    → IsApart h t → IsApart g t
entries_apart t object j [] h g leads a = subst (λ (x : HeapState). IsApart x t) (sym leads) a
entries_apart t object j (v ∷ vs) h g leads a = entries_apart t object (j + 1) vs leads.0 g leads.2
    (does_apart done h leads.0 t (steps.SetDatum object j v) (Ok tt) refl leads.1 a)

pub writes_apart : (t object j : ℕ) (values : List ℕ) (h g : HeapState) (r : Result Unit Refusal)
    → EndsWriting t object j values h r g → IsApart h t → IsApart g t
writes_apart t object j values h g (Ok u) k a = entries_apart t object j values h g k.steps a
writes_apart t object j values h g (Err e) k a = subst (λ (x : HeapState). IsApart x t) (sym k.0) a

pub copies_apart : (t target j source i count : ℕ) (h g : HeapState) (r : Result Unit Refusal)
    → EndsCopying t target j source i count h r g → IsApart h t → IsApart g t
copies_apart t target j source i count h g (Ok u) (values, long, reads, runs) a =
    entries_apart t target j values h g runs.steps a
copies_apart t target j source i count h g (Err e) k a = subst (λ (x : HeapState). IsApart x t) (sym k.0) a

pub bytes_apart : (t object at : ℕ) (bytes : List ℕ) (h g : HeapState) (r : Result Unit Refusal)
    → EndsWritingBytes t object at bytes h r g → IsApart h t → IsApart g t
bytes_apart t object at bytes h g (Ok u) (old, new, long, reads, is, fits, runs) a =
    entries_apart t object (at / 8) new h g runs.steps a
bytes_apart t object at bytes h g (Err e) k a = subst (λ (x : HeapState). IsApart x t) (sym k.0) a
