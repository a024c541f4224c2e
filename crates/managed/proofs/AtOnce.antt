-- A load that is done at once, as steps that preserve what a heap represents.
use Rattle.std.proofs.Common.{◌≡◌, ℕ, Bool, true, false, [], ◌∷◌, refl, sym, subst}
use Rattle.std.specs.Prelude.{Ok}
use Rattle.model.specs.declared.steps.Actor.TheVariants.{Thread}
use Rattle.model.specs.declared.steps.Answer.TheVariants as answers
use Rattle.model.specs.declared.steps.Step.{Step}
use Rattle.model.specs.declared.steps.Step.TheVariants as steps
use Rattle.model.specs.Holding.{IsHeap}
use Rattle.model.specs.Owning.{IsStore}
use Rattle.model.specs.Plain.{PlainHeap}
use Rattle.model.specs.States.{HeapState}
use Rattle.cycle.specs.Mutating.{ThreadStands}
use Rattle.fast_paths.specs.AtOnce.{GivesDatum, GivesSame, LoadsAtOnce, MayDoAtOnce, MayLoadAtOnce}
use Rattle.refinement.specs.Standing.{StepsHold, MarksFind, PhasesMove, KeepsStanding, kept_at_mark}
use Rattle.refinement.specs.Tallies.{StepsCount}
use Rattle.cycle.proofs.Replaying.{accepted_stands}
use Rattle.managed.specs.Found.{MayStep}
use Rattle.managed.specs.Goings.{LoadsWhole, IsInBarrier, MayLoadWhole}
use Rattle.managed.specs.Managing.{IsManaged}
use Rattle.managed.proofs.Running.{entry, managed_then, runs_one, runs_then}
use Rattle.managed.proofs.Going.{goes_none, whole_stands}

-- both its steps keep what the heap stands for
load_stands : (h g : HeapState) (t : ℕ) (begin : Step) → IsStore h.store → IsHeap h → StepsHold → MarksFind
    → PhasesMove → StepsCount → (k : LoadsAtOnce h t begin g)
    → KeepsStanding h (Thread t) begin (Ok answers.Loaded) k.between
    × KeepsStanding k.between (Thread t) steps.Finish (Ok answers.Done) g
load_stands h g t begin s d hold find move count k = (
  accepted_stands h k.between (Thread t) begin answers.Loaded k.loads s d hold find move count,
  accepted_stands k.between g (Thread t) steps.Finish answers.Done k.ends k.store k.heap hold find move count,
)

-- it is a whole load
whole_at_once : (h g : HeapState) (t : ℕ) (begin : Step) → IsStore h.store → IsHeap h → StepsHold → MarksFind
    → PhasesMove → StepsCount → LoadsAtOnce h t begin g → LoadsWhole h t begin (Ok tt) g
whole_at_once h g t begin s d hold find move count k =
    let both = load_stands h g t begin s d hold find move count k in
    let m = k.between in (
      m,
      runs_one h m (Thread t) begin answers.Loaded k.loads both.0,
      (m, goes_none (IsInBarrier t) m, runs_one m g (Thread t) steps.Finish answers.Done k.ends both.1),
    )

-- done, it is a whole load, after which the plain heap's register has the reference
may_begin_whole : (b : Bool) (h g : HeapState) (t : ℕ) (begin : Step)
    → ((p p0 : PlainHeap) → kept_at_mark p p0 begin ≡ p0) → IsStore h.store → IsHeap h → StepsHold
    → MarksFind → PhasesMove → StepsCount → MayLoadAtOnce b h t begin g → MayLoadWhole b h t begin g
may_begin_whole true h g t begin kept s d hold find move count k =
    let whole = whole_at_once h g t begin s d hold find move count k in
    (whole, whole_stands h g t begin (Ok tt) kept whole)
may_begin_whole false h g t begin kept s d hold find move count same = same

pub may_load_whole : (b : Bool) (h g : HeapState) (t target object i : ℕ) → IsStore h.store → IsHeap h → StepsHold
    → MarksFind → PhasesMove → StepsCount → MayLoadAtOnce b h t (steps.Load target object i) g
    → MayLoadWhole b h t (steps.Load target object i) g
may_load_whole b h g t target object i s d hold find move count k =
    may_begin_whole b h g t (steps.Load target object i) (λ p p0. refl) s d hold find move count k

pub may_load_global_whole : (b : Bool) (h g : HeapState) (t target global : ℕ) → IsStore h.store → IsHeap h
    → StepsHold → MarksFind → PhasesMove → StepsCount → MayLoadAtOnce b h t (steps.LoadGlobal target global) g
    → MayLoadWhole b h t (steps.LoadGlobal target global) g
may_load_global_whole b h g t target global s d hold find move count k =
    may_begin_whole b h g t (steps.LoadGlobal target global) (λ p p0. refl) s d hold find move count k

-- and the heap is a managed one
pub managed_at_once : (b : Bool) (h g : HeapState) (t : ℕ) (begin : Step) → IsStore h.store → IsHeap h → StepsHold
    → MarksFind → PhasesMove → StepsCount → MayLoadAtOnce b h t begin g → IsManaged h → IsManaged g
managed_at_once true h g t begin s d hold find move count k m =
    let both = load_stands h g t begin s d hold find move count k in
    let first = entry (Thread t) begin answers.Loaded in
    let last = entry (Thread t) steps.Finish answers.Done in
    managed_then h g (first ∷ last ∷ []) m
    (runs_then h k.between g (first ∷ []) (last ∷ [])
    (runs_one h k.between (Thread t) begin answers.Loaded k.loads both.0)
    (runs_one k.between g (Thread t) steps.Finish answers.Done k.ends both.1))
managed_at_once false h g t begin s d hold find move count same m = subst IsManaged (sym same) m

-- ---- steps in one go

pub may_store_step : (b : Bool) (h g : HeapState) (t object i source : ℕ) → IsStore h.store → IsHeap h → StepsHold
    → MarksFind → PhasesMove → StepsCount → MayDoAtOnce b h t (steps.Store object i source) g
    → MayStep b h t (steps.Store object i source) g
may_store_step true h g t object i source s d hold find move count k =
    (k, accepted_stands h g (Thread t) (steps.Store object i source) answers.Done k s d hold find move count)
may_store_step false h g t object i source s d hold find move count same = same

pub may_set_step : (b : Bool) (h g : HeapState) (t object j value : ℕ) → IsStore h.store → IsHeap h → StepsHold
    → MarksFind → PhasesMove → StepsCount → MayDoAtOnce b h t (steps.SetDatum object j value) g
    → MayStep b h t (steps.SetDatum object j value) g
may_set_step true h g t object j value s d hold find move count k =
    (k, accepted_stands h g (Thread t) (steps.SetDatum object j value) answers.Done k s d hold find move count)
may_set_step false h g t object j value s d hold find move count same = same

pub managed_in_one : (b : Bool) (h g : HeapState) (t : ℕ) (step : Step) → IsStore h.store → IsHeap h → StepsHold
    → MarksFind → PhasesMove → StepsCount → MayDoAtOnce b h t step g → IsManaged h → IsManaged g
managed_in_one true h g t step s d hold find move count k m =
    managed_then h g (entry (Thread t) step answers.Done ∷ []) m
    (runs_one h g (Thread t) step answers.Done k
    (accepted_stands h g (Thread t) step answers.Done k s d hold find move count))
managed_in_one false h g t step s d hold find move count same m = subst IsManaged (sym same) m

-- a datum that is read in one go
pub datum_stands : (h : HeapState) (t object j value : ℕ) → IsStore h.store → IsHeap h → StepsHold → MarksFind
    → PhasesMove → StepsCount → GivesDatum h t object j value
    → ThreadStands answers.Datum h t (steps.Datum object j) (Ok value) h
datum_stands h t object j value s d hold find move count k =
    accepted_stands h h (Thread t) (steps.Datum object j) (answers.Datum value) k s d hold find move count

-- registers that are compared in one go
pub same_stands : (h : HeapState) (t left right : ℕ) (truth : Bool) → IsStore h.store → IsHeap h → StepsHold
    → MarksFind → PhasesMove → StepsCount → GivesSame h t left right truth
    → ThreadStands answers.Truth h t (steps.Same left right) (Ok truth) h
same_stands h t left right truth s d hold find move count k =
    accepted_stands h h (Thread t) (steps.Same left right) (answers.Truth truth) k s d hold find move count
