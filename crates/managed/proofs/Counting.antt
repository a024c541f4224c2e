-- How many steps were done.
use Rattle.std.proofs.Common.{◌≡◌, ◌+◌, ◌≤◌, ◌<◌, ℕ, Bool, true, false, [], ◌∷◌, ◌++◌, subst}
use Rattle.std.proofs.Common.{refl, sym, arith, length-append, inl, inr}
use Rattle.std.specs.Prelude.{Result, Ok, Err, Some}
use Rattle.model.specs.declared.steps.Actor.{Actor}
use Rattle.model.specs.declared.steps.Actor.TheVariants.{Worker}
use Rattle.model.specs.declared.steps.Step.{Step}
use Rattle.model.specs.declared.steps.Answer.{Answer}
use Rattle.model.specs.declared.steps.Refusal.{Refusal}
use Rattle.model.specs.declared.steps.Refusal.TheVariants as refusals
use Rattle.model.specs.Outcome.{outcome}
use Rattle.model.specs.Refusing.{DoesStep}
use Rattle.model.specs.Scans.{next_drain}
use Rattle.model.specs.States.{HeapState}
use Rattle.refinement.specs.Standing.{KeepsStanding}
use Rattle.cycle.proofs.Stepped.{step_accepted}
use Rattle.managed.specs.Goings.{Goes, GoesFar, GoesBy, IsDrain, IsScan, ScansObjects, ScansUpTo, EndsDrain, EndsScan}
use Rattle.managed.specs.Goings.{MOST_OBJECTS, entry}
use Rattle.managed.specs.Preparing.{Prepares}
use Rattle.managed.proofs.Gathering.{scans_drain}
use Rattle.managed.proofs.Going.{each_append, goes_none, goes_then, next_scans, scan_refused}
use Rattle.managed.proofs.Running.{runs_none, runs_one, runs_then}

pub far_none : (P : Actor → Step → Type 0) (h : HeapState) → GoesFar P 0 h h
far_none P h = record {
  goes = record { entries = []; each = tt; runs = runs_none h };
  many = omega arith;
}

-- one more step, which was accepted
pub far_step : (P : Actor → Step → Type 0) (n : ℕ) (h m g : HeapState) (actor : Actor) (step : Step)
    (r : Result Answer Refusal) (a : Answer) → P actor step → r ≡ Ok a → DoesStep m step r g (outcome m actor step)
    → KeepsStanding m actor step r g → GoesFar P n h m → GoesFar P (n + 1) h g
far_step P n h m g actor step r a is ok does keeps k = record {
  goes = record {
    entries = k.goes.entries ++ entry actor step a ∷ [];
    each = each_append P k.goes.entries (entry actor step a ∷ []) k.goes.each (is, tt);
    runs = runs_then h m g k.goes.entries (entry actor step a ∷ []) k.goes.runs
        (runs_one m g actor step a (step_accepted m g step a (outcome m actor step)
        (subst (λ (q : Result Answer Refusal). DoesStep m step q g (outcome m actor step)) ok does))
        (subst (λ (q : Result Answer Refusal). KeepsStanding m actor step q g) ok keeps));
  };
  many = omega (arith, length-append k.goes.entries (entry actor step a ∷ []), k.many);
}

-- steps, and then others of which so many are known
pub far_then : (P : Actor → Step → Type 0) (n k : ℕ) (h m g : HeapState) → GoesFar P n h m → GoesFar P k m g
    → GoesFar P (n + k) h g
far_then P n k h m g a b = record {
  goes = record {
    entries = a.goes.entries ++ b.goes.entries;
    each = each_append P a.goes.entries b.goes.entries a.goes.each b.goes.each;
    runs = runs_then h m g a.goes.entries b.goes.entries a.goes.runs b.goes.runs;
  };
  many = omega (arith, length-append a.goes.entries b.goes.entries, a.many, b.many);
}

far_fewer : (P : Actor → Step → Type 0) (n k : ℕ) (h g : HeapState) → n ≤ k → GoesFar P k h g → GoesFar P n h g
far_fewer P n k h g l a = record { goes = a.goes; many = omega (arith, l, a.many) }

any_far : (P : Actor → Step → Type 0) (h g : HeapState) → Goes P h g → GoesFar P 0 h g
any_far P h g k = record { goes = k; many = omega arith }

far_after : (P : Actor → Step → Type 0) (n : ℕ) (h m g : HeapState) → Goes P h m → GoesFar P n m g → GoesFar P n h g
far_after P n h m g a b = far_fewer P n (0 + n) h g (omega arith) (far_then P 0 n h m g (any_far P h m a) b)

pub far_before : (P : Actor → Step → Type 0) (n : ℕ) (h m g : HeapState) → GoesFar P n h m → Goes P m g
    → GoesFar P n h g
far_before P n h m g a b = far_fewer P n (n + 0) h g (omega arith) (far_then P n 0 h m g a (any_far P m g b))

-- ---- scans, step by step

-- n scans, and n is at most so many
pub record ScansSo (w n most : ℕ) (h g : HeapState) : Type 0 where
  pub by : GoesBy (IsScan w) n h g
  pub few : n ≤ most

pub scan_first : (w most : ℕ) (h : HeapState) → ScansSo w 0 most h h
scan_first w most h = record {
  by = record { goes = record { entries = []; each = tt; runs = runs_none h }; many = refl };
  few = omega arith;
}

pub scan_next : (w n most : ℕ) (h m g : HeapState) (step : Step) (r : Result Answer Refusal) (a : Answer)
    → n < most → next_drain m w ≡ Some step → r ≡ Ok a → DoesStep m step r g (outcome m (Worker w) step)
    → KeepsStanding m (Worker w) step r g → ScansSo w n most h m → ScansSo w (n + 1) most h g
scan_next w n most h m g step r a low is ok does keeps k = record {
  by = record {
    goes = record {
      entries = k.by.goes.entries ++ entry (Worker w) step a ∷ [];
      each = each_append (IsScan w) k.by.goes.entries (entry (Worker w) step a ∷ []) k.by.goes.each
          ((refl, next_scans m w step is), tt);
      runs = runs_then h m g k.by.goes.entries (entry (Worker w) step a ∷ []) k.by.goes.runs
          (runs_one m g (Worker w) step a (step_accepted m g step a (outcome m (Worker w) step)
          (subst (λ (q : Result Answer Refusal). DoesStep m step q g (outcome m (Worker w) step)) ok does))
          (subst (λ (q : Result Answer Refusal). KeepsStanding m (Worker w) step q g) ok keeps));
    };
    many = omega (arith, length-append k.by.goes.entries (entry (Worker w) step a ∷ []), k.by.many);
  };
  few = omega (arith, low);
}

-- all steps were done
pub scan_all : (w n most : ℕ) (h g : HeapState) → most ≤ n → ScansSo w n most h g → GoesBy (IsScan w) most h g
scan_all w n most h g l k =
    let few = k.few in
    let same : n ≡ most = omega (arith, l, few) in subst (λ (i : ℕ). GoesBy (IsScan w) i h g) same k.by

-- nothing is left
pub scan_some : (w n most : ℕ) (h g : HeapState) → ScansSo w n most h g → ScansUpTo w most h g
scan_some w n most h g k = (n, k.few, k.by)

-- the next one is refused
pub scan_stops : (w n most : ℕ) (h m g : HeapState) (step : Step) (r : Result Answer Refusal) (e : Refusal)
    → next_drain m w ≡ Some step → r ≡ Err e → DoesStep m step r g (outcome m (Worker w) step)
    → ScansSo w n most h m → ScansUpTo w most h g
scan_stops w n most h m g step r e is refused does k =
    subst (ScansUpTo w most h) (sym (scan_refused m g step e (outcome m (Worker w) step) (next_scans m w step is)
    (subst (λ (q : Result Answer Refusal). DoesStep m step q g (outcome m (Worker w) step)) refused does)).1)
    (scan_some w n most h m k)

-- ---- what comes before objects

pub prepares_goes : (w : ℕ) (h g : HeapState) (b : Bool) → Prepares w h b g → Goes (IsDrain w) h g
prepares_goes w h g true k = k.goes
prepares_goes w h g false k = subst (Goes (IsDrain w) h) (sym k.0) (goes_none (IsDrain w) h)

-- ---- drains

pub drain_ends : (w : ℕ) (h g : HeapState) (r : Result Bool Refusal) (e : Refusal) → r ≡ Err e → EndsScan w r g
    → EndsDrain w h (Err e) g
drain_ends w h g r e is k = inr (subst (λ (q : Result Bool Refusal). EndsScan w q g) is k)

pub drain_left : (w n : ℕ) (h g : HeapState) → n ≤ MOST_OBJECTS → MOST_OBJECTS ≤ n → ScansObjects w n h g
    → EndsDrain w h (Err refusals.TodoLeft) g
drain_left w n h g few many k =
    let all : n ≡ MOST_OBJECTS = omega (arith, few, many) in
    inl (refl, (h, goes_none (IsDrain w) h, subst (λ (m : ℕ). ScansObjects w m h g) all k))

-- what came before
pub drain_after : (w : ℕ) (h m g : HeapState) (r : Result Unit Refusal) → Goes (IsDrain w) h m → EndsDrain w m r g
    → EndsDrain w h r g
drain_after w h m g (Ok u) a k = k
drain_after w h m g (Err e) a (inl (todo, k)) = inl (todo, (k.0, goes_then (IsDrain w) h m k.0 a k.1, k.2))
drain_after w h m g (Err e) a (inr k) = inr k

-- objects, whole
pub objects_drain : (w n : ℕ) (h g : HeapState) → ScansObjects w n h g → Goes (IsDrain w) h g
objects_drain w n h g k = scans_drain w h g k.goes
