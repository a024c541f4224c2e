-- What a worker does before it may scan complete objects.
use Rattle.std.specs.Prelude.{◌≡◌, ◌⊎◌, ◌<◌, ℕ, Bool, true, false, length, Some, None, Ok}
use Rattle.std.specs.Prelude.{slice_get, is_ok}
use Rattle.std.specs.List.{list_any}
use Rattle.drains.specs.Drains.{IsReady}
use Rattle.model.specs.declared.limits.TheConstants.{MOST_FIELDS}
use Rattle.model.specs.declared.records.Scan.{Scan}
use Rattle.model.specs.declared.steps.Actor.TheVariants.{Worker}
use Rattle.model.specs.declared.steps.Step.{Step}
use Rattle.model.specs.Bits.{of_page}
use Rattle.model.specs.Cycles.{is_uncopied}
use Rattle.model.specs.Outcome.{outcome}
use Rattle.model.specs.Scans.{may_scan, next_field}
use Rattle.model.specs.States.{HeapState}
use Rattle.managed.specs.Goings.{Goes, GoesFar, Scans, IsDrain}

-- no scan of worker w is accepted
abbrev pub ScansNothing : ℕ → HeapState → Type 0
ScansNothing w h = (step : Step) → Scans step → is_ok (outcome h (Worker w) step) ≡ false

-- worker w may scan complete objects, or no scan of it is accepted
abbrev pub IsPrepared : ℕ → HeapState → Type 0
IsPrepared w h = IsReady h w ⊎ ScansNothing w h

-- a part of the preparation: true if something was done; false if nothing was, as nothing was left of it
abbrev pub Prepares : ℕ → HeapState → Bool → HeapState → Type 0
Prepares w h true g = GoesFar (IsDrain w) 1 h g
Prepares w h false g = (g ≡ h) × IsPrepared w g

-- a mark runs that all threads have crossed, and worker w is there
pub record MayWork (w : ℕ) (h : HeapState) : Type 0 where
  pub scan : may_scan h ≡ Ok tt
  pub there : w < length h.workers

-- MayWork, and the worker has no object
pub record IsFree (w : ℕ) (h : HeapState) : Type 0 where
  pub scan : may_scan h ≡ Ok tt
  pub worker : slice_get h.workers w ≡ Some None

-- a worker's object after a field: the worker continues with the next one, or has none
abbrev pub GoesOn : ℕ → Scan → HeapState → Type 0
GoesOn w s g =
    (slice_get g.workers w ≡ Some None)
    ⊎ ((slice_get g.workers w ≡ Some (Some (next_field s))) × (s.next < MOST_FIELDS))

-- a field of the object that worker w has was scanned, or that object has ended
pub record FieldDone (h : HeapState) (w : ℕ) (s : Scan) (g : HeapState) : Type 0 where
  pub scan : may_scan g ≡ may_scan h
  pub many : length g.workers ≡ length h.workers
  pub now : GoesOn w s g

-- FieldDone, by a step
pub record ScansField (w : ℕ) (h g : HeapState) : Type 0 where
  pub goes : GoesFar (IsDrain w) 1 h g
  pub done : (s : Scan) → slice_get h.workers w ≡ Some (Some s) → FieldDone h w s g

-- page n has no uncopied object
abbrev pub AllCopied : HeapState → ℕ → Type 0
AllCopied h n = list_any is_uncopied (of_page h.sides n) ≡ false

-- page n has no uncopied object, nor has a page that had none
pub record PageDone (w : ℕ) (h : HeapState) (n : ℕ) (g : HeapState) : Type 0 where
  pub goes : Goes (IsDrain w) h g
  pub free : IsFree w g
  pub pages : g.store.count ≡ h.store.count
  pub done : AllCopied g n
  pub stay : (m : ℕ) → AllCopied h m → AllCopied g m

-- whether the page had an uncopied object: true if steps were done, false if nothing was
abbrev pub TellsDone : ℕ → HeapState → Bool → HeapState → Type 0
TellsDone w h true g = GoesFar (IsDrain w) 1 h g
TellsDone w h false g = g ≡ h
