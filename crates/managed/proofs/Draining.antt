-- Scans of complete objects: steps that scan.
use Rattle.std.proofs.Common.{◌≡◌, ◌∙◌, ◌+◌, ℕ, suc, Bool, true, false, List, [], ◌∷◌, ◌++◌, refl, sym, subst}
use Rattle.std.proofs.Common.{arith}
use Rattle.std.specs.Prelude.{Ok, Err, if◌then◌else◌, is_ok}
use Rattle.std.specs.List.{list_all}
use Rattle.std.proofs.lemmas.Bool.{and_parts}
use Rattle.model.specs.declared.steps.Actor.{Actor}
use Rattle.model.specs.declared.steps.Actor.TheVariants.{Worker}
use Rattle.model.specs.declared.steps.Step.{Step}
use Rattle.model.specs.declared.steps.Step.TheVariants as steps
use Rattle.model.specs.declared.steps.Answer.{Answer}
use Rattle.model.specs.Emptying.{heap_after}
use Rattle.model.specs.Holding.{IsHeap}
use Rattle.model.specs.Outcome.{outcome}
use Rattle.model.specs.Owning.{IsStore}
use Rattle.model.specs.Refusing.{Outcome}
use Rattle.model.specs.States.{HeapState}
use Rattle.refinement.specs.Standing.{StepsHold}
use Rattle.entries.specs.declared.entry.Entry.{Entry}
use Rattle.drains.specs.Drains.{drains, is_pick, picks, after_steps, AreInOrder, IsDrained}
use Rattle.managed.specs.Goings.{Goes, Scans, IsScan, ScansObjects, objects_in, entry}
use Rattle.managed.specs.Managing.{IsManaged}
use Rattle.managed.specs.Runs.{Runs}
use Rattle.managed.proofs.Going.{each_append}
use Rattle.managed.proofs.Running.{managed_then, runs_none, runs_then}

-- one accepted step, of a heap in order
pub runs_held : StepsHold → (h g : HeapState) (actor : Actor) (step : Step) (answer : Answer) → IsStore h.store → IsHeap h
    → outcome h actor step ≡ Ok (g, answer) → Runs h (entry actor step answer ∷ []) g
runs_held law h g actor step answer s i is = record {
  steps = (g, is, refl);
  stands = λ r k. let t = law h r.now r.at_mark actor step g answer s i k is in
      record { config = t.config; holds = t.holds; answers = (t.answers, tt) };
}

scans_if : (s : Step) → drains s ≡ true → Scans s
scans_if (steps.Pick page offset) e = tt
scans_if steps.ScanField e = tt
scans_if (steps.ScanGlobal g) e = tt
scans_if _ e = absurd (cc)

objects_append : (es fs : List Entry) → objects_in (es ++ fs) ≡ objects_in es + objects_in fs
objects_append [] fs = omega arith
objects_append (e ∷ es) fs = by_pick (is_pick e.step) (objects_append es fs)
  where
    by_pick : (b : Bool) → objects_in (es ++ fs) ≡ objects_in es + objects_in fs
        → (if b then suc (objects_in (es ++ fs)) else objects_in (es ++ fs))
        ≡ (if b then suc (objects_in es) else objects_in es) + objects_in fs
    by_pick true e = omega (arith, e)
    by_pick false e = e

objects_then : (w n k : ℕ) (h m g : HeapState) → ScansObjects w n h m → ScansObjects w k m g
    → ScansObjects w (n + k) h g
objects_then w n k h m g a b = record {
  goes = record {
    entries = a.goes.entries ++ b.goes.entries;
    each = each_append (IsScan w) a.goes.entries b.goes.entries a.goes.each b.goes.each;
    runs = runs_then h m g a.goes.entries b.goes.entries a.goes.runs b.goes.runs;
  };
  count = objects_append a.goes.entries b.goes.entries ∙ (λ i. a.count i + b.count i);
}

-- one accepted step
step_goes : StepsHold → (h : HeapState) (w : ℕ) (s : Step) → drains s ≡ true → IsStore h.store → IsHeap h
    → is_ok (outcome h (Worker w) s) ≡ true
    → ScansObjects w (picks (s ∷ [])) h (heap_after h (outcome h (Worker w) s))
step_goes law h w s d store i accepted = by_outcome (outcome h (Worker w) s) refl accepted
  where
    by_outcome : (o : Outcome) → outcome h (Worker w) s ≡ o → is_ok o ≡ true
        → ScansObjects w (picks (s ∷ [])) h (heap_after h o)
    by_outcome (Err n) e k = absurd (cc)
    by_outcome (Ok x) e k = record {
      goes = record {
        entries = entry (Worker w) s x.1 ∷ [];
        each = ((refl, scans_if s d), tt);
        runs = runs_held law h x.0 (Worker w) s x.1 store i e;
      };
      count = refl;
    }

picks_first : (s : Step) (ss : List Step) → picks (s ∷ []) + picks ss ≡ picks (s ∷ ss)
picks_first s ss = by_pick (is_pick s)
  where
    by_pick : (b : Bool) → (if b then 1 else 0) + picks ss ≡ (if b then suc (picks ss) else picks ss)
    by_pick true = omega arith
    by_pick false = omega arith

steps_go : StepsHold → (h : HeapState) (w : ℕ) (ss : List Step) → list_all drains ss ≡ true → AreInOrder h w ss
    → ScansObjects w (picks ss) h (after_steps h w ss)
steps_go law h w [] d o = record {
  goes = record { entries = []; each = tt; runs = runs_none h };
  count = refl;
}
steps_go law h w (s ∷ ss) d o =
    let (one, rest) = and_parts (drains s) (list_all drains ss) d in
    let next : HeapState = heap_after h (outcome h (Worker w) s) in
    subst (λ (n : ℕ). ScansObjects w n h (after_steps next w ss)) (picks_first s ss)
    (objects_then w (picks (s ∷ [])) (picks ss) h next (after_steps next w ss)
    (step_goes law h w s one o.0 o.1 o.2) (steps_go law next w ss rest o.3))

-- a drain
pub drained_objects : (h g : HeapState) (w n : ℕ) → StepsHold → IsDrained h w n g → ScansObjects w n h g
drained_objects h g w n law d = subst (λ (k : ℕ). ScansObjects w k h g) d.count
    (subst (ScansObjects w (picks d.steps) h) (sym d.done) (steps_go law h w d.steps d.only d.order))

pub drained_goes : (h g : HeapState) (w n : ℕ) → StepsHold → IsDrained h w n g → Goes (IsScan w) h g
drained_goes h g w n law d = (drained_objects h g w n law d).goes

-- a managed heap after steps
pub managed_goes : (P : Actor → Step → Type 0) (h g : HeapState) → IsManaged h → Goes P h g → IsManaged g
managed_goes P h g k b = managed_then h g b.entries k b.runs
