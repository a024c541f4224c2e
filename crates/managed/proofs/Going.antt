-- Calls of several steps, from one step to the next.
use Rattle.std.proofs.Common.{◌≡◌, ◌∙◌, ℕ, Bool, true, false, List, [], ◌∷◌, ◌++◌, refl, sym, subst, ap, inl, inr}
use Rattle.std.specs.Prelude.{Option, Some, None, Result, Ok, Err, if◌then◌else◌, is_some, position}
use Rattle.layout.specs.declared.shape.Layout.{Layout}
use Rattle.model.specs.declared.config.Config.{Config}
use Rattle.model.specs.declared.records.Global.{Global}
use Rattle.model.specs.declared.steps.Actor.{Actor}
use Rattle.model.specs.declared.steps.Actor.TheVariants.{Thread, Worker}
use Rattle.model.specs.declared.steps.Step.{Step}
use Rattle.model.specs.declared.steps.Step.TheVariants as steps
use Rattle.model.specs.declared.steps.Answer.{Answer}
use Rattle.model.specs.declared.steps.Answer.TheVariants as answers
use Rattle.model.specs.declared.steps.Refusal.{Refusal}
use Rattle.model.specs.Refusing.{Outcome, DoesStep}
use Rattle.model.specs.Outcome.{outcome}
use Rattle.model.specs.Plain.{PlainHeap, plain_step}
use Rattle.model.specs.Saying.{loaded}
use Rattle.model.specs.Scans.{scan_of, next_drain, next_todo, global_step_or, pick_step}
use Rattle.model.specs.States.{HeapState}
use Rattle.refinement.specs.Standing.{Holds, KeepsStanding, kept_at_mark}
use Rattle.entries.specs.declared.entry.Entry.{Entry}
use Rattle.cycle.specs.Mutating.{DoesThread, ThreadStands}
use Rattle.cycle.specs.Replays.{Replayed, after_entry, after_entries}
use Rattle.cycle.proofs.Stepped.{step_accepted, step_refused}
use Rattle.managed.specs.Goings.{EachIs, Goes, StandsForSame, IsInBarrier, Scans, IsScan, IsDrain, EndsLoad, Steps}
use Rattle.managed.specs.Goings.{LoadsWhole, LoadStands, EndsScan, IsCrossing, entry}
use Rattle.managed.proofs.Running.{runs_none, runs_then, runs_one}

pub each_append : (P : Actor → Step → Type 0) (es fs : List Entry) → EachIs P es → EachIs P fs → EachIs P (es ++ fs)
each_append P [] fs a b = b
each_append P (e ∷ es) fs a b = (a.0, each_append P es fs a.1 b)

-- no step
pub goes_none : (P : Actor → Step → Type 0) (h : HeapState) → Goes P h h
goes_none P h = record { entries = []; each = tt; runs = runs_none h }

-- one more step, which may be rejected
pub goes_step : (P : Actor → Step → Type 0) (h m g : HeapState) (actor : Actor) (step : Step)
    (result : Result Answer Refusal) → P actor step → DoesStep m step result g (outcome m actor step)
    → KeepsStanding m actor step result g → Goes P h m → Goes P h g
goes_step P h m g actor step (Ok a) is does keeps k = record {
  entries = k.entries ++ entry actor step a ∷ [];
  each = each_append P k.entries (entry actor step a ∷ []) k.each (is, tt);
  runs = runs_then h m g k.entries (entry actor step a ∷ []) k.runs
      (runs_one m g actor step a (step_accepted m g step a (outcome m actor step) does) keeps);
}
goes_step P h m g actor step (Err e) is does keeps k =
    subst (Goes P h) (sym (step_refused m g step e (outcome m actor step) does).1) k

-- steps, and then others
pub goes_then : (P : Actor → Step → Type 0) (h m g : HeapState) → Goes P h m → Goes P m g → Goes P h g
goes_then P h m g a b = record {
  entries = a.entries ++ b.entries;
  each = each_append P a.entries b.entries a.each b.each;
  runs = runs_then h m g a.entries b.entries a.runs b.runs;
}

-- the same as goes_step, of a call for a thread's step
pub goes_thread : {A : Type 0} (P : Actor → Step → Type 0) (answer : A → Answer) (h m g : HeapState) (t : ℕ)
    (step : Step) (result : Result A Refusal) → P (Thread t) step → DoesThread answer m t step result g
    → ThreadStands answer m t step result g → Goes P h m → Goes P h g
goes_thread P answer h m g t step (Ok a) is does keeps k = record {
  entries = k.entries ++ entry (Thread t) step (answer a) ∷ [];
  each = each_append P k.entries (entry (Thread t) step (answer a) ∷ []) k.each (is, tt);
  runs = runs_then h m g k.entries (entry (Thread t) step (answer a) ∷ []) k.runs
      (runs_one m g (Thread t) step (answer a)
      (step_accepted m g step (answer a) (outcome m (Thread t) step) does) keeps);
}
goes_thread P answer h m g t step (Err e) is does keeps k =
    subst (Goes P h) (sym (step_refused m g step e (outcome m (Thread t) step) does).1) k

-- steps that the plain heap doesn't see
quiet_entries : (P : Actor → Step → Type 0)
    → ((ls : List Layout) (r : Replayed) (e : Entry) → P e.actor e.step → after_entry ls r e ≡ r)
    → (ls : List Layout) (r : Replayed) (es : List Entry) → EachIs P es → after_entries ls r es ≡ r
quiet_entries P quiet ls r [] each = refl
quiet_entries P quiet ls r (e ∷ es) each =
    ap (λ (q : Replayed). after_entries ls q es) (quiet ls r e each.0) ∙ quiet_entries P quiet ls r es each.1

pub quiet_goes : (P : Actor → Step → Type 0)
    → ((ls : List Layout) (r : Replayed) (e : Entry) → P e.actor e.step → after_entry ls r e ≡ r)
    → (h g : HeapState) → Goes P h g → StandsForSame h g
quiet_goes P quiet h g k = record {
  same = λ p p0 holds.
      let r : Replayed = record { now = p; at_mark = p0 } in
      subst (λ (q : Replayed). Holds g q.now q.at_mark) (quiet_entries P quiet h.config.layouts r k.entries k.each)
      (k.runs.stands r holds).holds;
}

-- of a step that scans the plain heap knows nothing
scan_quiet : (w : ℕ) (ls : List Layout) (r : Replayed) (e : Entry) → IsScan w e.actor e.step → after_entry ls r e ≡ r
unfolding plain_step
scan_quiet w ls r e is = by_step e.actor e.step e.answer is
  where
    by_step : (actor : Actor) (step : Step) (a : Answer) → IsScan w actor step
        → after_entry ls r (entry actor step a) ≡ r
    by_step (Thread t) step a is = absurd is
    by_step (Worker v) (steps.Pick page offset) a is = refl
    by_step (Worker v) steps.ScanField a is = refl
    by_step (Worker v) (steps.ScanGlobal g) a is = refl
    by_step (Worker v) _ a is = absurd is.1

-- nor of what is done inside a barrier
barrier_quiet : (t : ℕ) (ls : List Layout) (r : Replayed) (e : Entry) → IsInBarrier t e.actor e.step
    → after_entry ls r e ≡ r
unfolding plain_step
barrier_quiet t ls r e is = by_step e.actor e.step e.answer is
  where
    by_step : (actor : Actor) (step : Step) (a : Answer) → IsInBarrier t actor step
        → after_entry ls r (entry actor step a) ≡ r
    by_step (Worker w) step a is = absurd is
    by_step (Thread u) steps.Trap a is = refl
    by_step (Thread u) steps.Heal a is = refl
    by_step (Thread u) _ a is = absurd is.1

-- nor of crossings
crossing_quiet : (w : ℕ) (ls : List Layout) (r : Replayed) (e : Entry) → IsCrossing w e.actor e.step
    → after_entry ls r e ≡ r
unfolding plain_step
crossing_quiet w ls r e is = by_step e.actor e.step e.answer is
  where
    by_step : (actor : Actor) (step : Step) (a : Answer) → IsCrossing w actor step
        → after_entry ls r (entry actor step a) ≡ r
    by_step (Thread u) steps.Cross a is = refl
    by_step (Thread u) _ a is = absurd is
    by_step (Worker v) (steps.CrossFor t) a is = refl
    by_step (Worker v) _ a is = absurd is

pub crossings_same : (w : ℕ) (h g : HeapState) → Goes (IsCrossing w) h g → StandsForSame h g
crossings_same w h g k = quiet_goes (IsCrossing w) (crossing_quiet w) h g k

-- nor of a step of a drain
drain_quiet : (w : ℕ) (ls : List Layout) (r : Replayed) (e : Entry) → IsDrain w e.actor e.step → after_entry ls r e ≡ r
unfolding plain_step
drain_quiet w ls r e is = by_step e.actor e.step e.answer is
  where
    by_step : (actor : Actor) (step : Step) (a : Answer) → IsDrain w actor step
        → after_entry ls r (entry actor step a) ≡ r
    by_step (Thread t) step a is = absurd is
    by_step (Worker v) (steps.CopyPage page) a is = refl
    by_step (Worker v) (steps.Pick page offset) a is = refl
    by_step (Worker v) steps.ScanField a is = refl
    by_step (Worker v) (steps.ScanGlobal g) a is = refl
    by_step (Worker v) _ a is = absurd is.1

pub drains_same : (w : ℕ) (h g : HeapState) → Goes (IsDrain w) h g → StandsForSame h g
drains_same w h g k = quiet_goes (IsDrain w) (drain_quiet w) h g k

pub scans_same : (w : ℕ) (h g : HeapState) → Goes (IsScan w) h g → StandsForSame h g
scans_same w h g k = quiet_goes (IsScan w) (scan_quiet w) h g k

-- what is next in a drain scans
MayScan : Option Step → Type 0
MayScan None = Unit {0}
MayScan (Some step) = Scans step

pub next_scans : (h : HeapState) (w : ℕ) (step : Step) → next_drain h w ≡ Some step → Scans step
unfolding next_drain MayScan
next_scans h w step is =
    let o : Option Step = pick_step h.store.words (next_todo h) in
    let n : Option ℕ = position (λ (g : Global). g.todo) h.globals in
    subst MayScan is (of_object (is_some (scan_of h w)) (global_step_or o n) (of_global o n (of_pick h.store.words
    (next_todo h))))
  where
    of_pick : (words : ℕ) (a : Option ℕ) → MayScan (pick_step words a)
    of_pick words None = tt
    of_pick words (Some a) = tt

    of_global : (o : Option Step) (g : Option ℕ) → MayScan o → MayScan (global_step_or o g)
    of_global o None k = k
    of_global o (Some g) k = tt

    of_object : (b : Bool) (o : Option Step) → MayScan o → MayScan (if b then Some steps.ScanField else o)
    of_object true o k = tt
    of_object false o k = k

-- a step of a drain
pub scan_goes : (w : ℕ) (h m g : HeapState) (step : Step) (result : Result Answer Refusal) → next_drain m w ≡ Some step
    → DoesStep m step result g (outcome m (Worker w) step) → KeepsStanding m (Worker w) step result g
    → Goes (IsScan w) h m → Goes (IsScan w) h g
scan_goes w h m g step result is does keeps k =
    goes_step (IsScan w) h m g (Worker w) step result (refl, next_scans m w step is) does keeps k

-- a refused step that scans
pub scan_refused : (m g : HeapState) (step : Step) (e : Refusal) (o : Outcome) → Scans step
    → DoesStep m step (Err e) g o
    → (o ≡ Err e) × (g ≡ m)
scan_refused m g (steps.Pick page offset) e o is does = does
scan_refused m g steps.ScanField e o is does = does
scan_refused m g (steps.ScanGlobal n) e o is does = does
scan_refused m g _ e o is does = absurd is

pub scan_ends : (w : ℕ) (m g : HeapState) (step : Step) (result : Result Answer Refusal) (e : Refusal)
    → next_drain m w ≡ Some step → result ≡ Err e → DoesStep m step result g (outcome m (Worker w) step)
    → EndsScan w (Err e) g
scan_ends w m g step result e next is does =
    let r = scan_refused m g step e (outcome m (Worker w) step) (next_scans m w step next)
    (subst (λ (r : Result Answer Refusal). DoesStep m step r g (outcome m (Worker w) step)) is does) in
    subst (EndsScan w (Err e)) (sym r.1) (step, next, r.0)

-- what comes before the end of a load
pub ends_after : (h m g : HeapState) (t : ℕ) (result : Result Unit Refusal) → Goes (IsInBarrier t) h m
    → EndsLoad m t result g → EndsLoad h t result g
ends_after h m g t (Ok u) a b = (b.0, goes_then (IsInBarrier t) h m b.0 a b.1, b.2)
ends_after h m g t (Err e) a b = (goes_then (IsInBarrier t) h m g a b.0, b.1)

-- a whole load, whose first step was accepted
pub whole : (h m g : HeapState) (t : ℕ) (begin : Step) (u : Unit {0}) (result : Result Unit Refusal)
    → DoesThread loaded h t begin (Ok u) m → ThreadStands loaded h t begin (Ok u) m → EndsLoad m t result g
    → LoadsWhole h t begin result g
whole h m g t begin u result does keeps ends = by_result result ends
  where
    first : Steps (Thread t) begin answers.Loaded h m
    first = runs_one h m (Thread t) begin answers.Loaded
        (step_accepted h m begin answers.Loaded (outcome h (Thread t) begin) does) keeps

    by_result : (r : Result Unit Refusal) → EndsLoad m t r g → LoadsWhole h t begin r g
    by_result (Ok v) ends = (m, first, ends)
    by_result (Err e) ends = inr (m, first, ends)

-- what it leaves stands for the plain heap whose register has the reference
pub whole_stands : (h g : HeapState) (t : ℕ) (begin : Step) (result : Result Unit Refusal)
    → ((p p0 : PlainHeap) → kept_at_mark p p0 begin ≡ p0) → LoadsWhole h t begin result g
    → LoadStands h t begin result g
whole_stands h g t begin (Ok u) kept w =
    λ p p0 k.
    let m = w.0 in
    let n = w.2.0 in
    let first = w.1.stands (record { now = p; at_mark = p0 }) k in
    let q = plain_step h.config.layouts p (Thread t) begin in
    let begun : Holds m q p0 = subst (Holds m q) (kept p p0) first.holds in
    let between = w.2.1.runs.stands (record { now = q; at_mark = p0 }) begun in
    let there : Holds n q p0 = (quiet_goes (IsInBarrier t) (barrier_quiet t) m n w.2.1).same q p0 begun in
    let end = w.2.2.stands (record { now = q; at_mark = p0 }) there in
    subst (λ (c : Config). Holds g (plain_step c.layouts q (Thread t) steps.Finish) p0) (between.config ∙ first.config)
    end.holds
whole_stands h g t begin (Err e) kept (inl w) = λ p p0 k. inl (subst (λ (x : HeapState). Holds x p p0) (sym w.1) k)
whole_stands h g t begin (Err e) kept (inr w) =
    λ p p0 k.
    let m = w.0 in
    let first = w.1.stands (record { now = p; at_mark = p0 }) k in
    let q = plain_step h.config.layouts p (Thread t) begin in
    let begun : Holds m q p0 = subst (Holds m q) (kept p p0) first.holds in
    inr ((quiet_goes (IsInBarrier t) (barrier_quiet t) m g w.2.0).same q p0 begun)
