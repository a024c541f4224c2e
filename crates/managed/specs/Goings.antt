-- Calls of several steps.
use Rattle.std.specs.Prelude.{◌≡◌, ◌⊎◌, ◌≤◌, ◌-◌, ◌^◌, ℕ, zero, suc, Bool, true, false, List, [], ◌∷◌, length}
use Rattle.std.specs.Prelude.{Some, None, Result, Ok, Err, slice_get, if◌then◌else◌}
use Rattle.drains.specs.Drains.{is_pick}
use Rattle.layout.specs.declared.shape.Layout.{Layout}
use Rattle.model.specs.declared.steps.Actor.{Actor}
use Rattle.model.specs.declared.steps.Actor.TheVariants.{Thread, Worker}
use Rattle.model.specs.declared.steps.Step.{Step}
use Rattle.model.specs.declared.steps.Step.TheVariants as steps
use Rattle.model.specs.declared.steps.Answer.{Answer}
use Rattle.model.specs.declared.steps.Answer.TheVariants as answers
use Rattle.model.specs.declared.steps.Refusal.{Refusal}
use Rattle.model.specs.declared.steps.Refusal.TheVariants as refusals
use Rattle.model.specs.Outcome.{outcome, is_loading_in}
use Rattle.model.specs.Phases.{is_crossing}
use Rattle.model.specs.Threads.{has_crossed, is_parked_in}
use Rattle.model.specs.Plain.{PlainHeap, plain_step}
use Rattle.model.specs.Scans.{next_drain}
use Rattle.model.specs.States.{HeapState}
use Rattle.refinement.specs.Standing.{Holds}
use Rattle.entries.specs.declared.entry.Entry.{Entry}
use Rattle.managed.specs.Runs.{Runs}

-- an entry
abbrev pub entry : Actor → Step → Answer → Entry
entry actor step answer = record { actor = actor; step = step; answer = answer }

-- each of these entries is of kind P
abbrev pub EachIs : (Actor → Step → Type 0) → List Entry → Type 0
EachIs P [] = Unit {0}
EachIs P (e ∷ es) = P e.actor e.step × EachIs P es

-- accepted steps, each of kind P, lead from heap h to g, and preserve what h represents
pub record Goes (P : Actor → Step → Type 0) (h g : HeapState) : Type 0 where
  pub entries : List Entry
  pub each : EachIs P entries
  pub runs : Runs h entries g

-- Goes by n steps or more
pub record GoesFar (P : Actor → Step → Type 0) (n : ℕ) (h g : HeapState) : Type 0 where
  pub goes : Goes P h g
  pub many : n ≤ length goes.entries

-- Goes by exactly n steps
pub record GoesBy (P : Actor → Step → Type 0) (n : ℕ) (h g : HeapState) : Type 0 where
  pub goes : Goes P h g
  pub many : length goes.entries ≡ n

-- one accepted step leads from heap h to g, and preserves what h represents
abbrev pub Steps : Actor → Step → Answer → HeapState → HeapState → Type 0
Steps actor step answer h g = Runs h (entry actor step answer ∷ []) g

-- if heap h represents a reference model, g represents the same one
pub record StandsForSame (h g : HeapState) : Type 0 where
  pub same : (p p0 : PlainHeap) → Holds h p p0 → Holds g p p0

-- a trap or a heal: what a load does between its first step and its last
abbrev pub IsTrapOrHeal : Step → Type 0
IsTrapOrHeal steps.Trap = Unit {0}
IsTrapOrHeal steps.Heal = Unit {0}
IsTrapOrHeal _ = ⊥

-- such a step of thread t
abbrev pub IsInBarrier : ℕ → Actor → Step → Type 0
IsInBarrier t (Thread u) step = (u ≡ t) × IsTrapOrHeal step
IsInBarrier t (Worker w) step = ⊥

-- how a trap of thread t ended: none was due, or one was
abbrev pub EndsTrap : HeapState → ℕ → Result Bool Refusal → HeapState → Type 0
EndsTrap h t (Ok true) g = outcome h (Thread t) steps.Trap ≡ Ok (g, answers.Clear)
EndsTrap h t (Ok false) g =
    (outcome h (Thread t) steps.Trap ≡ Ok (g, answers.Moved))
    ⊎ (outcome h (Thread t) steps.Trap ≡ Ok (g, answers.Marked))
EndsTrap h t (Err e) g = outcome g (Thread t) steps.Trap ≡ Err e

-- of N traps of thread t, one after another, one is clear, if none is rejected
abbrev pub TrapsLeft : ℕ → HeapState → ℕ → Type 0
TrapsLeft zero h t = ⊥
TrapsLeft (suc n) h t = (g : HeapState) (a : Answer) → outcome h (Thread t) steps.Trap ≡ Ok (g, a)
    → (a ≡ answers.Clear) ⊎ TrapsLeft n g t

-- thread t may end its load: its trap is clear
abbrev pub IsClear : HeapState → ℕ → Type 0
IsClear h t = (m : HeapState) × (outcome m (Thread t) steps.Trap ≡ Ok (h, answers.Clear))

-- a load whose trap is clear was ended: by a heal, if the word was corrected and its place isn't healed, and Finish
abbrev pub EndsClear : HeapState → ℕ → HeapState → Type 0
EndsClear h t g = (m : HeapState) × Goes (IsInBarrier t) h m × Steps (Thread t) steps.Finish answers.Done m g

-- a load that has begun is ended: by traps and heals, and then Finish. It fails only as its trap does on the heap
-- then, which is the step that is due; those before it are done
abbrev pub EndsLoad : HeapState → ℕ → Result Unit Refusal → HeapState → Type 0
EndsLoad h t (Ok u) g = EndsClear h t g
EndsLoad h t (Err e) g = Goes (IsInBarrier t) h g × (outcome g (Thread t) steps.Trap ≡ Err e)

-- a complete load: the step that begins it, and those that end it; if the first is rejected, nothing is done
abbrev pub LoadsWhole : HeapState → ℕ → Step → Result Unit Refusal → HeapState → Type 0
LoadsWhole h t begin (Ok u) g =
    (m : HeapState) × Steps (Thread t) begin answers.Loaded h m × EndsLoad m t (Ok u) g
LoadsWhole h t begin (Err e) g =
    ((outcome h (Thread t) begin ≡ Err e) × (g ≡ h))
    ⊎ ((m : HeapState) × Steps (Thread t) begin answers.Loaded h m × EndsLoad m t (Err e) g)

-- the reference model after a complete load: the register has the reference
abbrev pub plain_loaded : List Layout → PlainHeap → ℕ → Step → PlainHeap
plain_loaded ls p t begin = plain_step ls (plain_step ls p (Thread t) begin) (Thread t) steps.Finish

-- if heap h represents a reference model, after a complete load g represents the one whose register has the
-- reference; and after one that failed, the one with the load begun, or the same one
abbrev pub LoadStands : HeapState → ℕ → Step → Result Unit Refusal → HeapState → Type 0
LoadStands h t begin (Ok u) g = (p p0 : PlainHeap) → Holds h p p0 → Holds g (plain_loaded h.config.layouts p t begin) p0
LoadStands h t begin (Err e) g = (p p0 : PlainHeap) → Holds h p p0
    → (Holds g p p0 ⊎ Holds g (plain_step h.config.layouts p (Thread t) begin) p0)

-- a complete load at once: true if it is done, and false if nothing is
abbrev pub MayLoadWhole : Bool → HeapState → ℕ → Step → HeapState → Type 0
MayLoadWhole true h t begin g = LoadsWhole h t begin (Ok tt) g × LoadStands h t begin (Ok tt) g
MayLoadWhole false h t begin g = g ≡ h

-- a step that scans
abbrev pub Scans : Step → Type 0
Scans (steps.Pick page offset) = Unit {0}
Scans steps.ScanField = Unit {0}
Scans (steps.ScanGlobal g) = Unit {0}
Scans _ = ⊥

-- such a step of worker w
abbrev pub IsScan : ℕ → Actor → Step → Type 0
IsScan w (Thread t) step = ⊥
IsScan w (Worker v) step = (v ≡ w) × Scans step

-- how a scan ended: true if nothing is left but what other workers have; an error is that of the next step
abbrev pub EndsScan : ℕ → Result Bool Refusal → HeapState → Type 0
EndsScan w (Ok true) g = next_drain g w ≡ None
EndsScan w (Ok false) g = Unit {0}
EndsScan w (Err e) g = (step : Step) × (next_drain g w ≡ Some step) × (outcome g (Worker w) step ≡ Err e)

-- at most n scans lead from heap h to g
abbrev pub ScansUpTo : ℕ → ℕ → HeapState → HeapState → Type 0
ScansUpTo w n h g = (k : ℕ) × (k ≤ n) × GoesBy (IsScan w) k h g

-- a scan of at most n steps that returns false has done n; any other may have done fewer
abbrev pub ScansFar : ℕ → ℕ → HeapState → Result Bool Refusal → HeapState → Type 0
ScansFar w n h (Ok false) g = GoesBy (IsScan w) n h g
ScansFar w n h (Ok true) g = ScansUpTo w n h g
ScansFar w n h (Err e) g = ScansUpTo w n h g

-- how many objects were taken
abbrev pub objects_in : List Entry → ℕ
objects_in [] = 0
objects_in (e ∷ es) = if is_pick e.step then suc (objects_in es) else objects_in es

-- scans of worker w, which take n objects, lead from heap h to g, and preserve what h represents
pub record ScansObjects (w n : ℕ) (h g : HeapState) : Type 0 where
  pub goes : Goes (IsScan w) h g
  pub count : objects_in goes.entries ≡ n

-- a step of a drain: it scans, or it copies the uncopied objects of a page
abbrev pub Drains : Step → Type 0
Drains (steps.CopyPage page) = Unit {0}
Drains step = Scans step

-- such a step of worker w
abbrev pub IsDrain : ℕ → Actor → Step → Type 0
IsDrain w (Thread t) step = ⊥
IsDrain w (Worker v) step = (v ≡ w) × Drains step

-- the most objects that a drain scans
abbrev pub MOST_OBJECTS : ℕ
MOST_OBJECTS = 2 ^ 64 - 1

-- the most objects were scanned, after the steps before them
abbrev pub DrainsMost : ℕ → HeapState → HeapState → Type 0
DrainsMost w h g = (m : HeapState) × Goes (IsDrain w) h m × ScansObjects w MOST_OBJECTS m g

-- how a drain from heap h ended: nothing is left but what other workers have; or the next step is rejected with e;
-- or the most objects weren't all
abbrev pub EndsDrain : ℕ → HeapState → Result Unit Refusal → HeapState → Type 0
EndsDrain w h (Ok u) g = next_drain g w ≡ None
EndsDrain w h (Err e) g = ((e ≡ refusals.TodoLeft) × DrainsMost w h g) ⊎ EndsScan w (Err e) g

-- a crossing of any thread, or for one by worker w
abbrev pub IsCrossing : ℕ → Actor → Step → Type 0
IsCrossing w (Thread t) steps.Cross = Unit {0}
IsCrossing w (Thread t) _ = ⊥
IsCrossing w (Worker v) (steps.CrossFor t) = v ≡ w
IsCrossing w (Worker v) _ = ⊥

-- thread t can't cross: it has an open barrier; or it is parked, and there is no worker w; or no checkpoint is open
abbrev pub IsStuck : ℕ → HeapState → ℕ → Type 0
IsStuck w g t =
    (is_loading_in (slice_get g.threads t) ≡ true)
    ⊎ (((is_parked_in (slice_get g.threads t) ≡ true) × (length g.workers ≤ w)) ⊎ (is_crossing g.phase ≡ false))

-- thread t has crossed, or can't
abbrev pub HasTried : ℕ → HeapState → ℕ → Type 0
HasTried w g t = (has_crossed (slice_get g.threads t) ≡ true) ⊎ IsStuck w g t

-- the error is that a thread hasn't crossed, which can't
abbrev pub IsBehind : ℕ → HeapState → Refusal → Type 0
IsBehind w g e = (t : ℕ) × (e ≡ refusals.NotCrossed t) × IsStuck w g t

-- if not all threads have crossed, the error is that of one which can't
abbrev pub AllTried : ℕ → Result Unit Refusal → HeapState → Type 0
AllTried w (Ok u) g = Unit {0}
AllTried w (Err e) g = IsBehind w g e

-- a register of any thread is corrected
abbrev pub IsScrub : Actor → Step → Type 0
IsScrub (Thread t) (steps.Scrub r) = Unit {0}
IsScrub (Thread t) _ = ⊥
IsScrub (Worker w) step = ⊥
