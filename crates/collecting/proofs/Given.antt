-- A thread that has given its buffer back isn't rejected for having one.
use Rattle.std.proofs.Common.{◌≡◌, ◌∙◌, ℕ, Bool, true, false, length, Option, Some, None, nat_le, cond, refl, sym}
use Rattle.std.proofs.Common.{subst, ap}
use Rattle.std.specs.Prelude.{Result, Ok, Err, is_some, if◌then◌else◌, ◌&&◌, ◌||◌}
use Rattle.std.specs.List.{slice_get}
use Rattle.std.proofs.lemmas.Bool.{true≢false}
use Rattle.model.specs.declared.records.Buffer.{Buffer}
use Rattle.model.specs.declared.records.Room.{Room}
use Rattle.model.specs.declared.records.Room.TheVariants.{NoFrames, NoPages, NoMemory}
use Rattle.model.specs.declared.steps.Actor.TheVariants.{Thread}
use Rattle.model.specs.declared.steps.Step.TheVariants as steps
use Rattle.model.specs.declared.steps.Answer.{Answer}
use Rattle.model.specs.declared.steps.Answer.TheVariants as answers
use Rattle.model.specs.declared.steps.Refusal.{Refusal}
use Rattle.model.specs.declared.steps.Refusal.TheVariants as refusals
use Rattle.model.specs.Buffers.{buffer_of_thread, give_back_outcome, take_outcome, take_result, with_buffer}
use Rattle.model.specs.Outcome.{outcome, thread_gate, is_loading_in}
use Rattle.model.specs.Refusing.{◌>>=◌, Outcome}
use Rattle.model.specs.Saying.{done}
use Rattle.model.specs.States.{HeapState, ThreadState, change_found}
use Rattle.model.specs.Stores.{StoreState, take_buffer}
use Rattle.model.specs.Threads.{buffer_in, is_parked_in, set_buffer_of}
use Rattle.model.proofs.Lists.{get_set_same}
use Rattle.refinement.proofs.Accepted.{OnAccepted, of_accepted, on_bind, on_truth}
use Rattle.cycle.specs.Mutating.{DoesThread}
use Rattle.collecting.specs.Collections.{has_buffer}
use Rattle.collecting.specs.Rooms.{IsNotHeld}

of_held : {A : Type 0} (r : Result A Refusal) (e : Refusal) → IsNotHeld r → r ≡ Err e → has_buffer e ≡ false
of_held (Ok x) e a is = absurd (cc)
of_held {A} (Err n) e a is = ap has_buffer (same n e is) ∙ a
  where
    same : (n e : Refusal) → ◌≡◌ {A = Result A Refusal} (Err n) (Err e) → e ≡ n
    same n e is = cc

then_held : {A : Type 0} (r : Result Unit Refusal) (f : Unit {0} → Result A Refusal) → IsNotHeld r
    → (r ≡ Ok tt → IsNotHeld (f tt)) → IsNotHeld (r >>= f)
then_held (Ok u) f a k = k refl
then_held (Err e) f a k = a

gate_held : (h : HeapState) (t n : ℕ) → IsNotHeld (thread_gate h t (steps.Take n))
unfolding thread_gate
gate_held h t n = by_tests (nat_le (length h.threads) t) _ (is_parked_in (slice_get h.threads t))
    (is_loading_in (slice_get h.threads t))
  where
    passed : Result (Unit {0}) Refusal
    passed = Ok tt

    by_tests : (a b p l : Bool) → IsNotHeld (if a || false then Err refusals.NoActor else
        (if b then Err refusals.BadIndex else
        (if p && true then Err refusals.Parked else (if l && true then Err refusals.Busy else passed))))
    by_tests true b p l = refl
    by_tests false true p l = refl
    by_tests false false true l = refl
    by_tests false false false true = refl
    by_tests false false false false = tt

-- a thread that passes the tests before a Take passes those before a GiveBack
gate_back : (h : HeapState) (t n : ℕ) → thread_gate h t (steps.Take n) ≡ Ok tt → thread_gate h t steps.GiveBack ≡ Ok tt
unfolding thread_gate
gate_back h t n e = by_tests (nat_le (length h.threads) t) _ (is_parked_in (slice_get h.threads t))
    (is_loading_in (slice_get h.threads t)) e
  where
    passed : Result (Unit {0}) Refusal
    passed = Ok tt

    by_tests : (a b p l : Bool) → (if a || false then Err refusals.NoActor else (if b then Err refusals.BadIndex else
        (if p && true then Err refusals.Parked else (if l && true then Err refusals.Busy else passed)))) ≡ passed
        → (if a || false then Err refusals.NoActor else (if false then Err refusals.BadIndex else
        (if p && true then Err refusals.Parked else (if l && true then Err refusals.Busy else passed)))) ≡ passed
    by_tests true b p l k = absurd cc
    by_tests false true p l k = absurd cc
    by_tests false false true l k = absurd cc
    by_tests false false false true k = absurd cc
    by_tests false false false false k = refl

take_held : (h : HeapState) (t n : ℕ)
    → (thread_gate h t (steps.Take n) ≡ Ok tt → is_some (buffer_of_thread h t) ≡ false)
    → IsNotHeld (outcome h (Thread t) (steps.Take n))
unfolding outcome take_outcome
take_held h t n none = then_held (thread_gate h t (steps.Take n)) _ (gate_held h t n)
    (λ gate. by_buffer (is_some (buffer_of_thread h t)) (none gate) (take_buffer h.store n))
  where
    by_buffer : (b : Bool) → b ≡ false → (r : Result (StoreState × Buffer) Room)
        → IsNotHeld (cond b (Err refusals.HasBuffer) (take_result h t r))
    by_buffer true e r = absurd (true≢false e)
    by_buffer false e (Ok x) = tt
    by_buffer false e (Err NoFrames) = refl
    by_buffer false e (Err NoPages) = refl
    by_buffer false e (Err NoMemory) = refl

-- a thread that has given its buffer back has none
back_none : (h : HeapState) (t : ℕ) → OnAccepted (λ (z : HeapState × Answer). is_some (buffer_of_thread z.0 t) ≡ false)
    (outcome h (Thread t) steps.GiveBack)
unfolding outcome give_back_outcome with_buffer
back_none h t = on_bind (thread_gate h t steps.GiveBack) _ _ (λ u f.
    on_truth (is_some (buffer_of_thread h t)) _ _ _ (λ e. by_thread (slice_get h.threads t) refl))
  where
    by_thread : (o : Option ThreadState) → slice_get h.threads t ≡ o
        → is_some (buffer_in (slice_get (change_found h.threads t o (set_buffer_of None)) t)) ≡ false
    by_thread None e = ap (λ (o : Option ThreadState). is_some (buffer_in o)) e
    by_thread (Some x) e = ap (λ (o : Option ThreadState). is_some (buffer_in o))
        (get_set_same h.threads t x (set_buffer_of None x) e)

-- a thread that can't give one back has none, or passes no test
none_back : (h : HeapState) (t n : ℕ) (e : Refusal) → outcome h (Thread t) steps.GiveBack ≡ Err e
    → thread_gate h t (steps.Take n) ≡ Ok tt → is_some (buffer_of_thread h t) ≡ false
unfolding outcome give_back_outcome
none_back h t n e refused gate = by_buffer (is_some (buffer_of_thread h t))
    (ap (λ (q : Result Unit Refusal). q >>= (λ u. give_back_outcome h t)) (sym (gate_back h t n gate)) ∙ refused)
  where
    new : Outcome
    new = Ok (with_buffer h t None, answers.Done)

    by_buffer : (b : Bool) → cond b new (Err refusals.NoRoom) ≡ Err e → b ≡ false
    by_buffer false k = refl
    by_buffer true k = absurd cc

pub never_held : (t n : ℕ) (h m : HeapState) (q : Result Unit Refusal) (e : Refusal)
    → DoesThread done h t steps.GiveBack q m → outcome m (Thread t) (steps.Take n) ≡ Err e → has_buffer e ≡ false
never_held t n h m (Ok u) e back refused = of_held (outcome m (Thread t) (steps.Take n)) e
    (take_held m t n (λ gate. of_accepted (λ (z : HeapState × Answer). is_some (buffer_of_thread z.0 t) ≡ false)
    (outcome h (Thread t) steps.GiveBack) (m, answers.Done) (back_none h t) back)) refused
never_held t n h m (Err x) e back refused = of_held (outcome h (Thread t) (steps.Take n)) e
    (take_held h t n (λ gate. none_back h t n x back.0 gate))
    (subst (λ (y : HeapState). outcome y (Thread t) (steps.Take n) ≡ Err e) back.1 refused)
