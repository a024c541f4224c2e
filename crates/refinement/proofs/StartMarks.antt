-- A mark starts.
use Rattle.std.proofs.Common.{◌≡◌, ◌⊎◌, inl, inr, ℕ, zero, suc, ◌≤◌, ◌||◌}
use Rattle.std.proofs.Common.{Bool, true, false, cond, not, nat_eq, nat_lt, List, [], ◌∷◌, length, map, Option, Some}
use Rattle.std.proofs.Common.{None}
use Rattle.std.proofs.Common.{refl, sym, ◌∙◌, ap, subst, arith}
use mathlib.Core.Path.{fun_ext}
use Rattle.std.specs.List.{slice_get, list_any}
use Rattle.std.specs.Option.{option_map}
use Rattle.std.proofs.lemmas.Bool.Decides.{nat_tests}
use Rattle.std.proofs.lemmas.List.{length-map}
use Rattle.std.proofs.lemmas.Option.{slice_get-map}
use Rattle.refword.specs.Words.{IsWord}
use Rattle.model.specs.declared.steps.Actor.TheVariants.{Worker}
use Rattle.model.specs.declared.steps.Step.TheVariants as steps
use Rattle.model.specs.declared.records.Forwarding.{Forwarding}
use Rattle.model.specs.declared.records.Global.{Global}
use Rattle.model.specs.declared.records.Phase.{Phase}
use Rattle.model.specs.declared.records.Phase.TheVariants.{Idle, MarkCrossing, Scanning, ProtectCrossing, Relocating}
use Rattle.model.specs.Phases.{may_start_mark}
use Rattle.model.specs.Owning.{Each, IsStore}
use Rattle.model.specs.Holding.{IsHeap}
use Rattle.model.specs.States.{HeapState, ThreadState}
use Rattle.model.specs.Threads.{register_in, set_crossed_of, buffer_in, has_crossed, is_parked_in}
use Rattle.model.specs.Registers.{register_of}
use Rattle.model.specs.Cycles.{is_uncopied, set_todo_of, start_mark}
use Rattle.model.specs.Cycles.{start_mark_outcome}
use Rattle.model.specs.Plain.{PlainHeap, plain_step, plain_answer}
use Rattle.laws.specs.AddressHeap.{Null, Planned}
use Rattle.laws.specs.Edits as edits
use Rattle.laws.specs.Transitions.{StartMark}
use Rattle.refinement.specs.Worlds.{world_of, as_word, barrier_in, global_in, todo_in, entry_of}
use Rattle.refinement.specs.Worlds as worlds
use Rattle.refinement.specs.Roots.{HoldsWords}
use Rattle.refinement.specs.Standing.{Holds}
use Rattle.refinement.proofs.Accepted.{on_truth}
use Rattle.refinement.proofs.Carrying.{Carries, RowHolds, row_by, stays}
use Rattle.refinement.proofs.Records.{records_of, records_carry}
use Rattle.refinement.proofs.References.{less_is}

-- a property of each element that a change of all keeps
pub kept_of_all : {X B : Type 0} (P : Option X → B) (xs : List X) (f : X → X)
    → ((x : X) → P (Some (f x)) ≡ P (Some x)) → (u : ℕ) → P (slice_get (map f xs) u) ≡ P (slice_get xs u)
kept_of_all {X} P xs f h u = ap P (slice_get-map f xs u) ∙ here (slice_get xs u)
  where
    here : (o : Option X) → P (option_map f o) ≡ P o
    here None = refl
    here (Some x) = h x

pub each_of_all : {X : Type 0} (P : X → Type 0) (xs : List X) (f : X → X) → ((x : X) → P x → P (f x)) → Each xs P
    → Each (map f xs) P
each_of_all P [] f h k i x e = absurd (cc)
each_of_all {X} P (x ∷ xs) f h k zero y e = by_equal (cc) (h x (k zero x refl))
  where
    by_equal : f x ≡ y → P (f x) → P y
    by_equal e z = subst P e z
each_of_all P (x ∷ xs) f h k (suc i) y e = each_of_all P xs f h (λ j z g. k (suc j) z g) i y e

-- all globals that exist are grey
todo_of_all : (gs : List Global) (g : ℕ) → todo_in (slice_get (map set_todo_of gs) g) ≡ nat_lt g (length gs)
todo_of_all [] g = grind (arith, nat_tests)
todo_of_all (x ∷ gs) zero = sym (less_is zero (suc (length gs)) (omega arith))
todo_of_all (x ∷ gs) (suc g) = todo_of_all gs g ∙ (grind (arith, nat_tests))

-- the threads of a mark that starts
abbrev behind : HeapState → List ThreadState
behind h = map (set_crossed_of false) h.threads

start_carries : (h : HeapState)
    → Carries h (start_mark h) (edits.start_mark (λ t. has_crossed (slice_get (behind h) t)))
unfolding start_mark register_of
start_carries h = records_carry h (record (records_of h) {
  threads = behind h;
  globals = map set_todo_of h.globals;
  phase = MarkCrossing;
  nmt = not h.nmt;
}) (edits.start_mark (λ t. has_crossed (slice_get (behind h) t))) (record {
  mark = λ z. z;
  todo = λ z. z;
  threads = length-map h.threads (set_crossed_of false);
  registers = each_of_all (λ y. length y.registers ≡ h.config.registers) h.threads (set_crossed_of false) (λ y e. e);
  buffers = kept_of_all buffer_in h.threads (set_crossed_of false) (λ y. refl);
  workers = refl;
  globals = length-map h.globals set_todo_of;
}) (λ z. record {
  threads = each_of_all (HoldsWords h.config.registers) h.threads (set_crossed_of false)
      (λ y e. record { registers_hold = e.registers_hold; barrier = e.barrier }) z.threads;
  globals = each_of_all (λ y. IsWord y.word) h.globals set_todo_of (λ y e. e) z.globals;
}) (λ z. record (world_of h) {
  register = fun_ext (λ u. fun_ext
      (λ r. kept_of_all (λ o. as_word (register_in o r)) h.threads (set_crossed_of false) (λ y. refl) u)) z;
  crossed = λ t. has_crossed (slice_get (behind h) t);
  parked = fun_ext (kept_of_all is_parked_in h.threads (set_crossed_of false) (λ y. refl)) z;
  barrier = fun_ext (kept_of_all barrier_in h.threads (set_crossed_of false) (λ y. refl)) z;
  is_global = fun_ext (λ n. ap (nat_lt n) (length-map h.globals set_todo_of)) z;
  global = fun_ext (kept_of_all global_in h.globals set_todo_of (λ y. refl)) z;
  global_todo = fun_ext (todo_of_all h.globals) z;
  phase = MarkCrossing;
  nmt = not h.nmt;
})

-- an entry that is planned isn't copied
pub planned_uncopied : (fs : List Forwarding) (o n : ℕ) → worlds.entry_at fs o ≡ Planned n
    → list_any is_uncopied fs ≡ true
planned_uncopied [] o n e = absurd (cc)
planned_uncopied (f ∷ fs) o n e = by_test (nat_eq f.offset o) f.copied (planned_uncopied fs o n) e
  where
    by_test : (b c : Bool) → (worlds.entry_at fs o ≡ Planned n → list_any is_uncopied fs ≡ true)
        → cond b (entry_of c f.to) (worlds.entry_at fs o) ≡ Planned n → not c || list_any is_uncopied fs ≡ true
    by_test true true h k = absurd (cc)
    by_test true false h k = refl
    by_test false true h k = h k
    by_test false false h k = refl

-- in these phases a mark may start
pub in_phase : (f : Phase) → may_start_mark f ≡ true → (f ≡ Idle) ⊎ (f ≡ Relocating)
in_phase Idle e = inl refl
in_phase Relocating e = inr refl
in_phase MarkCrossing e = absurd (cc)
in_phase Scanning e = absurd (cc)
in_phase ProtectCrossing e = absurd (cc)

-- if no thread has crossed, the first one hasn't
pub first_waits : (threads : List ThreadState) → 1 ≤ length threads
    → has_crossed (slice_get (map (set_crossed_of false) threads) 0) ≡ false
first_waits [] m = absurd (omega (arith, m))
first_waits (x ∷ xs) m = refl

module _ {h : HeapState} {p p0 : PlainHeap} (s : IsStore h.store) (d : IsHeap h) (k : Holds h p p0) where
  no_thread : (t r : ℕ) → has_crossed (slice_get (behind h) t) ≡ true → (world_of h).register t r ≡ Null
  unfolding register_of
  no_thread t r e = by_thread (slice_get h.threads t) (sym (ap has_crossed (slice_get-map
      (set_crossed_of false) h.threads t)) ∙ e)
    where
      by_thread : (o : Option ThreadState) → has_crossed (option_map (set_crossed_of false) o) ≡ true
          → as_word (register_in o r) ≡ Null
      by_thread None f = refl
      by_thread (Some x) f = absurd (cc)

  -- a mark starts
  pub start_mark_holds : (w : ℕ) → RowHolds h p p0 (Worker w) steps.StartMark (start_mark_outcome h)
  unfolding start_mark_outcome plain_step plain_answer
  start_mark_holds w = on_truth (may_start_mark h.phase) _ _ _ (λ e.
      let threads : 1 ≤ length h.threads = omega (arith, d.config.threads_low, k.sizes.threads) in
      row_by k (start_carries h) (stays h p) (StartMark _ (record {
        phase = in_phase h.phase e;
        waits = (0, first_waits h.threads threads);
        no_thread = no_thread;
      })) tt)
