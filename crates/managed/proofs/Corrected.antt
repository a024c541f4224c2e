-- Registers that are corrected, all of them.
use Rattle.std.proofs.Common.{◌≡◌, ◌⊎◌, ◌∙◌, inl, inr, ℕ, ◌+◌, ◌/◌, ◌<◌, ◌≤◌, Bool, true, false, not, cond}
use Rattle.std.proofs.Common.{length, Option, Some, None, nat_le, refl, sym, subst, ap, arith}
use Rattle.std.specs.Prelude.{Result, Ok, Err, IfOk, if◌then◌else◌, ◌&&◌, ◌||◌}
use Rattle.std.specs.List.{slice_get}
use Rattle.std.proofs.lemmas.Bool.{cases_lt, true≢false}
use Rattle.std.proofs.lemmas.Bool.Decides.{nat_tests}
use Rattle.std.proofs.lemmas.Option.{slice_get_past, slice_get_within}
use Rattle.model.specs.declared.records.PageState.TheVariants.{Open}
use Rattle.model.specs.declared.records.Phase.{Phase}
use Rattle.model.specs.declared.records.Phase.TheVariants.{Idle, MarkCrossing, Scanning, ProtectCrossing, Relocating}
use Rattle.model.specs.declared.steps.Actor.TheVariants.{Thread}
use Rattle.model.specs.declared.steps.Step.TheVariants as steps
use Rattle.model.specs.declared.steps.Answer.TheVariants as answers
use Rattle.model.specs.declared.steps.Refusal.{Refusal}
use Rattle.model.specs.declared.steps.Refusal.TheVariants as refusals
use Rattle.model.specs.Checkpoints.{all_crossed, none_behind, first_behind}
use Rattle.model.specs.Loads.{is_refused}
use Rattle.model.specs.Moves.{copied_first, moved_word}
use Rattle.model.specs.Outcome.{outcome, thread_gate, no_register, is_loading_in}
use Rattle.model.specs.Owning.{Each, IsStore}
use Rattle.model.specs.Phases.{is_crossing, is_marking, is_protect_crossing}
use Rattle.model.specs.Plain.{PlainHeap}
use Rattle.model.specs.Refusing.{◌>>=◌, or_refuse, Outcome}
use Rattle.model.specs.Registers.{register_of, with_register, let_through, held_back}
use Rattle.model.specs.Saying.{scrubbed}
use Rattle.model.specs.States.{HeapState, ThreadState, Reference, flat}
use Rattle.model.specs.Stores.{state_at, is_protected}
use Rattle.model.specs.Threads.{has_crossed, is_parked_in, register_in}
use Rattle.model.specs.Traps.{scrub_word, scrub_outcome}
use Rattle.laws.specs.AddressHeap.{To, names}
use Rattle.laws.proofs.Reading.{register_kept}
use Rattle.refinement.specs.PlainHeaps.{births_of}
use Rattle.refinement.specs.Standing.{Holds}
use Rattle.refinement.specs.Worlds.{world_of, as_word}
use Rattle.refinement.proofs.Crossings.{none_is_behind}
use Rattle.refinement.proofs.Moving.{leads, held_protected}
use Rattle.cycle.specs.Mutating.{DoesThread}
use Rattle.managed.specs.Goings.{Goes, IsScrub}
use Rattle.managed.specs.Scrubbing.{names_protected, needs_no_scrub, IsScrubbed, AreScrubbed}
use Rattle.managed.proofs.Scrubbed.{Cleans, Moves, after_here, moves_keep, protected_same, scrubbed_stays, scrubs}

-- ---- one register

-- where no checkpoint of protected pages is open, a word that may be used names no protected page
free_word : (h : HeapState) (t a : ℕ) → is_protect_crossing h.phase ≡ false → is_refused (let_through h t a) ≡ false
    → is_protected (state_at h.store (a / h.store.words)) ≡ false
unfolding let_through
free_word h t a phase e = by_test (is_protected (state_at h.store (a / h.store.words))) e
  where
    by_phase : (f : Phase) (c : Bool) → is_protect_crossing f ≡ false → is_refused (held_back f c) ≡ false → ⊥
    by_phase ProtectCrossing c m k = true≢false m
    by_phase Idle c m k = true≢false k
    by_phase MarkCrossing c m k = true≢false k
    by_phase Scanning c m k = true≢false k
    by_phase Relocating c m k = true≢false k

    by_test : (b : Bool)
        → is_refused (cond b (held_back h.phase (has_crossed (slice_get h.threads t))) (Ok tt)) ≡ false → b ≡ false
    by_test false k = refl
    by_test true k = absurd (by_phase h.phase (has_crossed (slice_get h.threads t)) phase k)

lt_not_le : (m n : ℕ) → m < n → nat_le n m ≡ false
lt_not_le m n l = grind (arith, nat_tests)

-- each thread has as many registers as the heap says
abbrev HaveRegisters : HeapState → Type 0
HaveRegisters h = Each h.threads (λ (x : ThreadState). length x.registers ≡ h.config.registers)

-- a register that isn't null is there
register_there : (h : HeapState) (t r : ℕ) (w : ℕ × Bool) → HaveRegisters h → register_of h t r ≡ Some w
    → (nat_le (length h.threads) t ≡ false) × (nat_le h.config.registers r ≡ false)
unfolding register_of
register_there h t r w all at = by_thread (slice_get h.threads t) refl at
  where
    by_register : (x : ThreadState) (q : Option Reference) → slice_get x.registers r ≡ q → flat q ≡ Some w
        → r < length x.registers
    by_register x None e f = absurd (cc)
    by_register x (Some y) e f = slice_get_within x.registers r y e

    by_thread : (o : Option ThreadState) → slice_get h.threads t ≡ o → register_in o r ≡ Some w
        → (nat_le (length h.threads) t ≡ false) × (nat_le h.config.registers r ≡ false)
    by_thread None e f = absurd (cc)
    by_thread (Some x) e f =
        let low : r < length x.registers = by_register x (slice_get x.registers r) refl f in
        let many : length x.registers ≡ h.config.registers = all t x e in (
          lt_not_le t (length h.threads) (slice_get_within h.threads t x e),
          lt_not_le r h.config.registers (omega (arith, low, many)),
        )

-- its scrub passes the tests before the row
gate_passed : (h : HeapState) (t r : ℕ) → nat_le (length h.threads) t ≡ false → nat_le h.config.registers r ≡ false
    → is_parked_in (slice_get h.threads t) ≡ false → is_loading_in (slice_get h.threads t) ≡ false
    → thread_gate h t (steps.Scrub r) ≡ Ok tt
unfolding thread_gate no_register
gate_passed h t r = by_tests (nat_le (length h.threads) t) (nat_le h.config.registers r)
    (is_parked_in (slice_get h.threads t)) (is_loading_in (slice_get h.threads t))
  where
    passed : Result (Unit {0}) Refusal
    passed = Ok tt

    by_tests : (a b p l : Bool) → a ≡ false → b ≡ false → p ≡ false → l ≡ false
        → (if a || false then Err refusals.NoActor else (if b then Err refusals.BadIndex else
        (if p && true then Err refusals.Parked else (if l && true then Err refusals.Busy else passed)))) ≡ passed
    by_tests false false false false e f g k = refl
    by_tests true b p l e f g k = absurd (true≢false e)
    by_tests false true p l e f g k = absurd (true≢false f)
    by_tests false false true l e f g k = absurd (true≢false g)
    by_tests false false false true e f g k = absurd (true≢false k)

scrub_is : (h : HeapState) (t r : ℕ) (w : ℕ × Bool) → thread_gate h t (steps.Scrub r) ≡ Ok tt
    → register_of h t r ≡ Some w → outcome h (Thread t) (steps.Scrub r) ≡ scrub_word h t r w
unfolding outcome scrub_outcome
scrub_is h t r w gate at =
    ap (λ (q : Result Unit Refusal). q >>= (λ u. scrub_outcome h t r)) gate
    ∙ ap (λ (o : Option (ℕ × Bool)). or_refuse o refusals.Null >>= (λ v. scrub_word h t r v)) at

word_never : (h : HeapState) (t r : ℕ) (w : ℕ × Bool) (e : Refusal) → is_protect_crossing h.phase ≡ false
    → scrub_word h t r w ≡ Err e → ⊥
word_never h t r w e phase is = by_tests (not (is_refused (let_through h t w.0))) (is_protect_crossing h.phase) phase is
  where
    new : Outcome
    new = Ok (with_register (copied_first h w.0) t r (Some (moved_word h w)), answers.Moved)

    clean : Outcome
    clean = Ok (h, answers.Clean)

    by_tests : (a b : Bool) → b ≡ false → cond a clean (cond b (Err refusals.Stall) new) ≡ Err e → ⊥
    by_tests true b f k = absurd cc
    by_tests false false f k = absurd cc
    by_tests false true f k = true≢false f

-- the word that a register is corrected to names an open page
moved_open : (h : HeapState) (p p0 : PlainHeap) (t r : ℕ) (w : ℕ × Bool) → IsStore h.store → Holds h p p0
    → register_of h t r ≡ Some w → is_refused (let_through h t w.0) ≡ true
    → state_at h.store ((moved_word h w).0 / h.store.words) ≡ Open
unfolding moved_word
moved_open h p p0 t r (a, bit) s k at held =
    let word : as_word (register_of h t r) ≡ To a bit = ap as_word at in
    let z = leads s k a bit ((births_of p).register t r) (ap (names (world_of h)) (sym word)
    ∙ (k.invariant.words.registers t r).names) (register_kept (world_of h) (births_of p) t r)
    (held_protected h t a held) in
    ap (λ (n : ℕ). state_at h.store (n / h.store.words)) z.word ∙ z.on_open

-- a scrub corrects its register
pub scrub_corrects : (h g : HeapState) (p p0 : PlainHeap) (t r : ℕ) (result : Result Bool Refusal) → IsStore h.store
    → Holds h p p0 → DoesThread scrubbed h t (steps.Scrub r) result g → is_protect_crossing h.phase ≡ false
    → IsScrubbed g t r
scrub_corrects h g p p0 t r (Ok b) s k does phase =
    by_case ((scrubs h g t r (scrubbed b) does).does)
  where
    here : (m : Moves h t r g) → register_of g t r ≡ Some (moved_word h m.word)
    here m = subst (λ (y : HeapState). register_of y t r ≡ Some (moved_word h m.word)) (sym m.is)
        (after_here h m.word.0 t r (Some (moved_word h m.word)) m.word m.at)

    by_case : Cleans h t r g ⊎ Moves h t r g → IsScrubbed g t r
    by_case (inl c) = λ x y. subst (λ (z : HeapState). names_protected z (register_of z t r) ≡ false) (sym c.same)
        (ap (names_protected h) c.at ∙ free_word h t c.word.0 phase c.free)
    by_case (inr m) = λ x y. ap (names_protected g) (here m)
        ∙ protected_same h g (moves_keep h g t r m) (Some (moved_word h m.word))
        ∙ ap is_protected (moved_open h p p0 t r m.word s k m.at m.held)
scrub_corrects h g p p0 t r (Err e) s k does phase =
    subst (λ (z : HeapState). IsScrubbed z t r) (sym does.1) (λ x y. by_word x y (register_of h t r) refl)
  where
    by_word : is_parked_in (slice_get h.threads t) ≡ false → is_loading_in (slice_get h.threads t) ≡ false
        → (v : Reference) → register_of h t r ≡ v → names_protected h (register_of h t r) ≡ false
    by_word x y None at = ap (names_protected h) at
    by_word x y (Some w) at =
        let there = register_there h t r w k.laid.registers at in
        absurd (word_never h t r w e phase
        (sym (scrub_is h t r w (gate_passed h t r there.0 there.1 x y) at) ∙ does.0))

-- ---- all registers

past_thread : (h : HeapState) (t r : ℕ) → length h.threads ≤ t → IsScrubbed h t r
unfolding register_of
past_thread h t r l = λ x y. ap (λ (o : Option ThreadState). names_protected h (register_in o r))
    (slice_get_past h.threads t l)

past_register : (h : HeapState) (t r : ℕ) → HaveRegisters h → h.config.registers ≤ r → IsScrubbed h t r
unfolding register_of
past_register h t r all l = λ x y. ap (names_protected h) (by_thread (slice_get h.threads t) refl)
  where
    by_thread : (o : Option ThreadState) → slice_get h.threads t ≡ o
        → ◌≡◌ {A = Reference} (register_in o r) None
    by_thread None e = refl
    by_thread (Some x) e =
        let many : length x.registers ≡ h.config.registers = all t x e in
        ap flat (slice_get_past x.registers r (omega (arith, many, l)))

pub each_scrubbed : (h g : HeapState) (p p0 : PlainHeap) (t n : ℕ) → Holds h p p0 → n ≡ h.config.registers
    → Goes IsScrub h g → ((r : ℕ) → r < n → IsScrubbed g t r) → (r : ℕ) → IsScrubbed g t r
each_scrubbed h g p p0 t n k many goes below r = by_place (cases_lt r n)
  where
    by_place : (r < n) ⊎ (n ≤ r) → IsScrubbed g t r
    by_place (inl l) = below r l
    by_place (inr l) =
        scrubbed_stays h g t r goes (past_register h t r k.laid.registers (omega (arith, many, l)))

pub all_scrubbed : (h g : HeapState) (p p0 : PlainHeap) (n : ℕ) → Holds h p p0 → n ≡ h.config.threads
    → Goes IsScrub h g → ((t : ℕ) → t < n → (r : ℕ) → IsScrubbed g t r) → AreScrubbed g
all_scrubbed h g p p0 n k many goes below = λ t r. by_place t r (cases_lt t n)
  where
    size : length h.threads ≡ h.config.threads
    size = k.sizes.threads

    by_place : (t r : ℕ) → (t < n) ⊎ (n ≤ t) → IsScrubbed g t r
    by_place t r (inl l) = below t l r
    by_place t r (inr l) = scrubbed_stays h g t r goes (past_thread h t r (omega (arith, many, l, size)))

-- ---- loops

-- registers of thread t that were scrubbed, and one more
pub registers_more : (m g : HeapState) (t n : ℕ) → Goes IsScrub m g → ((r : ℕ) → r < n → IsScrubbed m t r)
    → IsScrubbed g t n → (r : ℕ) → r < n + 1 → IsScrubbed g t r
registers_more m g t n goes before one r l = by_place (cases_lt r n)
  where
    by_place : (r < n) ⊎ (n ≤ r) → IsScrubbed g t r
    by_place (inl k) = scrubbed_stays m g t r goes (before r k)
    by_place (inr k) = let same : n ≡ r = omega (arith, l, k) in subst (IsScrubbed g t) same one

-- threads, and one more
pub threads_more : (m g : HeapState) (n : ℕ) → Goes IsScrub m g → ((t : ℕ) → t < n → (r : ℕ) → IsScrubbed m t r)
    → ((r : ℕ) → IsScrubbed g n r) → (t : ℕ) → t < n + 1 → (r : ℕ) → IsScrubbed g t r
threads_more m g n goes before one t l r = by_place (cases_lt t n)
  where
    by_place : (t < n) ⊎ (n ≤ t) → IsScrubbed g t r
    by_place (inl k) = scrubbed_stays m g t r goes (before t k r)
    by_place (inr k) = let same : n ≡ t = omega (arith, l, k) in subst (λ (x : ℕ). IsScrubbed g x r) same (one r)

-- ---- phases

-- where no page is protected, or a mark runs that all threads have crossed, nothing has to be corrected
pub calm_scrubbed : (h : HeapState) (p p0 : PlainHeap) → Holds h p p0 → needs_no_scrub h.phase ≡ true → AreScrubbed h
calm_scrubbed h p p0 k e = by_phase h.phase refl e
  where
    idle : h.phase ≡ Idle → (v : Reference) → names_protected h v ≡ false
    idle at None = refl
    idle at (Some w) = k.invariant.phases.idle w.0 at

    scanning : h.phase ≡ Scanning → (t r : ℕ) → (v : Reference) → register_of h t r ≡ v → names_protected h v ≡ false
    scanning at t r None f = refl
    scanning at t r (Some (a, n)) f =
        let marking : is_marking h.phase ≡ true = ap is_marking at in
        let all = k.invariant.phases.crossed (ap is_crossing at) t in
        let word : as_word (register_of h t r) ≡ To a n = ap as_word f in
        let bit : n ≡ h.nmt = k.invariant.marks.registers t r marking all a n word in
        let marked = (k.invariant.words.registers t r).fits.inside a marking (word ∙ ap (To a) bit) in
        k.invariant.marks.unprotected a marked

    by_phase : (f : Phase) → h.phase ≡ f → needs_no_scrub f ≡ true → AreScrubbed h
    by_phase Idle at f = λ t r x y. idle at (register_of h t r)
    by_phase Scanning at f = λ t r x y. scanning at t r (register_of h t r) refl
    by_phase MarkCrossing at f = absurd (true≢false (sym f))
    by_phase ProtectCrossing at f = absurd (true≢false (sym f))
    by_phase Relocating at f = absurd (true≢false (sym f))

-- where all threads have crossed, no checkpoint is open
pub crossed_open : (h : HeapState) (p p0 : PlainHeap) → Holds h p p0 → all_crossed h ≡ Ok tt
    → is_crossing h.phase ≡ false
unfolding all_crossed
crossed_open h p p0 k e = by_phase (is_crossing h.phase) refl
  where
    by_found : (o : Option ℕ) → first_behind h.threads ≡ o → none_behind o ≡ Ok tt → is_crossing h.phase ≡ true → ⊥
    by_found (Some t) at f open_now = absurd (cc)
    by_found None at f open_now =
        let (t, waits) = k.invariant.phases.waits open_now in
        true≢false (sym (none_is_behind h.threads at t) ∙ waits)

    by_phase : (b : Bool) → is_crossing h.phase ≡ b → b ≡ false
    by_phase false f = refl
    by_phase true f = absurd (by_found (first_behind h.threads) refl e f)

not_protecting : (f : Phase) → is_crossing f ≡ false → is_protect_crossing f ≡ false
not_protecting Idle e = refl
not_protecting MarkCrossing e = refl
not_protecting Scanning e = refl
not_protecting Relocating e = refl
not_protecting ProtectCrossing e = e

pub crossed_calm : (h m : HeapState) (p p0 : PlainHeap) → Holds h p p0 → all_crossed h ≡ Ok tt → m.phase ≡ h.phase
    → is_protect_crossing m.phase ≡ false
crossed_calm h m p p0 k e same =
    ap is_protect_crossing same ∙ not_protecting h.phase (crossed_open h p p0 k e)

-- what holds where a call was done
pub if_ok : {A : Type 0} (P : Type 0) (r : Result A Refusal) (x : A) → r ≡ Ok x → IfOk r (λ (y : A). P) → P
if_ok {A} P r x is k = subst (λ (q : Result A Refusal). IfOk q (λ (y : A). P)) is k
