-- Several steps of a thread by one call.
use Rattle.std.specs.Prelude.{◌≡◌, ◌⊎◌, ◌≤◌, ◌==◌, ◌&&◌, ◌+◌, ℕ, Bool, false, List, [], ◌∷◌, ◌++◌, drop, length}
use Rattle.std.specs.Prelude.{Option, Some, None, Result, Ok, Err, slice_get, nat_le, if◌then◌else◌}
use Rattle.layout.specs.declared.shape.Layout.{Layout}
use Rattle.model.specs.declared.steps.Actor.TheVariants.{Thread}
use Rattle.model.specs.declared.steps.Step.{Step}
use Rattle.model.specs.declared.steps.Step.TheVariants as steps
use Rattle.model.specs.declared.steps.Answer.TheVariants as answers
use Rattle.model.specs.declared.steps.Refusal.{Refusal}
use Rattle.model.specs.declared.steps.Refusal.TheVariants as refusals
use Rattle.model.specs.Outcome.{no_register, outcome}
use Rattle.model.specs.Refusing.{◌>>=◌}
use Rattle.model.specs.Registers.{usable_or_null}
use Rattle.model.specs.States.{HeapState}
use Rattle.managed.specs.declared.batches.FieldLoad.{FieldLoad}
use Rattle.managed.specs.declared.batches.LoadsFault.{LoadsFault}
use Rattle.managed.specs.Goings.{LoadsWhole, LoadStands, Steps}

-- a complete load of a field of the object in a register
abbrev pub LoadsField : ℕ → ℕ → FieldLoad → HeapState → Result Unit Refusal → HeapState → Type 0
LoadsField t object l h r g =
    LoadsWhole h t (steps.Load l.target object l.field) r g × LoadStands h t (steps.Load l.target object l.field) r g

-- such loads, one after another, up to the first that fails; n are done already
abbrev pub EndsLoads : ℕ → ℕ → ℕ → List FieldLoad → HeapState → Result Unit LoadsFault → HeapState → Type 0
EndsLoads t object n [] h r g = (r ≡ Ok tt) × (g ≡ h)
EndsLoads t object n (l ∷ ls) h r g =
    ((m : HeapState) × LoadsField t object l h (Ok tt) m × EndsLoads t object (n + 1) ls m r g)
    ⊎ ((e : Refusal) × LoadsField t object l h (Err e) g × (r ≡ Err (record { done = n; refusal = e })))

-- no more references and data words than a layout may have
pub record LayoutHas (refs nums : ℕ) : Type 0 where
  pub refs_fit : refs ≤ 65535
  pub nums_fit : nums ≤ 65535

-- a layout that may be missing has at least `refs` references and `nums` data words
abbrev pub has_places : Option Layout → ℕ → ℕ → Bool
has_places None refs nums = false
has_places (Some l) refs nums = nat_le refs l.refs && nat_le nums l.nums

-- the layout of a number has at least `refs` references and `nums` data words
unfoldable pub places_test : HeapState → ℕ → ℕ → ℕ → Result Unit Refusal
places_test h layout refs nums =
    if has_places (slice_get h.config.layouts layout) refs nums then Ok tt else Err refusals.BadIndex

-- a register may be stored in the new object that register `target` will name
unfoldable pub source_test : HeapState → ℕ → ℕ → ℕ → Result Unit Refusal
source_test h t target source =
    if no_register h source then Err refusals.BadIndex else (if source == target then Ok tt else do
      _ ← usable_or_null h t source
      Ok tt)

-- each of these registers may be stored so
abbrev pub sources_test : HeapState → ℕ → ℕ → List ℕ → Result Unit Refusal
sources_test h t target [] = Ok tt
sources_test h t target (s ∷ ss) = do
  _ ← source_test h t target s
  sources_test h t target ss

-- a new object of a layout can be filled from these registers, and with these data words
unfoldable pub fill_test : HeapState → ℕ → ℕ → ℕ → List ℕ → List ℕ → Result Unit Refusal
fill_test h t target layout sources nums = do
  _ ← places_test h layout (length sources) (length nums)
  sources_test h t target sources

-- the steps that store registers in an object's references, from reference i on
abbrev pub store_steps : ℕ → ℕ → List ℕ → List Step
store_steps object i [] = []
store_steps object i (s ∷ ss) = steps.Store object i s ∷ store_steps object (i + 1) ss

-- the steps that write an object's data words, from word j on
abbrev pub set_steps : ℕ → ℕ → List ℕ → List Step
set_steps object j [] = []
set_steps object j (x ∷ xs) = steps.SetDatum object j x ∷ set_steps object (j + 1) xs

-- the steps that fill an object from its first reference and its first data word on
abbrev pub fill_steps : ℕ → List ℕ → List ℕ → List Step
fill_steps object sources nums = store_steps object 0 sources ++ set_steps object 0 nums

-- such steps of thread t, one after another, up to the first that is rejected
abbrev pub EndsFilling : ℕ → List Step → HeapState → Result Unit Refusal → HeapState → Type 0
EndsFilling t [] h r g = (r ≡ Ok tt) × (g ≡ h)
EndsFilling t (s ∷ ss) h r g =
    ((m : HeapState) × Steps (Thread t) s answers.Done h m × EndsFilling t ss m r g)
    ⊎ ((e : Refusal) × (outcome h (Thread t) s ≡ Err e) × (r ≡ Err e) × (g ≡ h))

-- however the rest of such steps ends from heap m, all of them end from heap h
abbrev pub IsRestOfSteps : ℕ → List Step → HeapState → List Step → HeapState → Type 0
IsRestOfSteps t all h rest m = (r : Result Unit Refusal) (g : HeapState)
    → EndsFilling t rest m r g → EndsFilling t all h r g

-- IsRestOfSteps of stores from store i on, if all begin with store `first`
abbrev pub IsRestOfStores : ℕ → ℕ → ℕ → HeapState → List ℕ → ℕ → HeapState → Type 0
IsRestOfStores t object first h ss i m =
    IsRestOfSteps t (store_steps object first (drop first ss)) h (store_steps object i (drop i ss)) m

-- IsRestOfSteps of writes of data words
abbrev pub IsRestOfData : ℕ → ℕ → ℕ → HeapState → List ℕ → ℕ → HeapState → Type 0
IsRestOfData t object first h xs j m =
    IsRestOfSteps t (set_steps object first (drop first xs)) h (set_steps object j (drop j xs)) m

-- IsRestOfSteps of loads
abbrev pub IsRestOfLoads : ℕ → ℕ → ℕ → HeapState → List FieldLoad → ℕ → HeapState → Type 0
IsRestOfLoads t object first h ls n m = (r : Result Unit LoadsFault) (g : HeapState)
    → EndsLoads t object n (drop n ls) m r g → EndsLoads t object first (drop first ls) h r g
