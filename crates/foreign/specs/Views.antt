-- The heap of a handle, read in its current state.
use Rattle.std.specs.Prelude.{◌≡◌, ◌⊎◌, ◌≢◌, ℕ, Option, Some, None, Result, Ok, Err}
use Rattle.refword.specs.Words.{IsAddress}
use Rattle.collecting.specs.declared.seeing.Object.{Object}
use Rattle.model.specs.declared.steps.Refusal.{Refusal}
use Rattle.model.specs.declared.steps.Refusal.TheVariants as refusals
use Rattle.model.specs.States.{HeapState}
use Rattle.viewing.specs.Viewing.{IsHandle, ReadsDatum, ReadsEntry, TellsOk, field_entry, global_entry, handle_at}
use Rattle.viewing.specs.Viewing.{register_entry}

-- the place that C gets for an object that was found: 0 for null, else an address
abbrev pub IsPlace : ℕ → Option ℕ → Type 0
IsPlace place None = place ≡ 0
IsPlace place (Some a) = (place ≡ a) × IsAddress a

-- the address of a place of C, if an object can be there
abbrev pub ReadsPlace : ℕ → Result ℕ Refusal → Type 0
ReadsPlace place (Ok a) = (a ≡ place) × IsAddress a
ReadsPlace place (Err e) =
    ((place ≡ 0) × (e ≡ refusals.Null)) ⊎ ((place ≢ 0) × (IsAddress place → ⊥) × (e ≡ refusals.BadIndex))

-- a read of the object at a place: it fails with Null for 0, P holds if a handle has the place, and nothing changes
abbrev pub OfPlace : {A : Type 0} → (HeapState → ℕ → Result A Refusal → Type 0) → ℕ
    → HeapState → Result A Refusal → HeapState → Type 0
OfPlace P place h r g = record {
  null : place ≡ 0 → r ≡ Err refusals.Null;
  reads : IsAddress place → IsHandle (handle_at h place) → P h place r;
  same : g ≡ h;
}

-- the object that a register of a thread names was found, and nothing changed
abbrev pub ViewsRegister : ℕ → ℕ → HeapState → Result (Option ℕ) Refusal → HeapState → Type 0
ViewsRegister t register h r g = ReadsEntry h (register_entry t register) r × (g ≡ h)

-- the object that a global names was found, and nothing changed
abbrev pub ViewsGlobal : ℕ → HeapState → Result (Option ℕ) Refusal → HeapState → Type 0
ViewsGlobal global h r g = ReadsEntry h (global_entry global) r × (g ≡ h)

-- the object that a reference of the object at a place names was found, and nothing changed
abbrev pub ViewsField : ℕ → ℕ → HeapState → Result (Option ℕ) Refusal → HeapState → Type 0
ViewsField place i = OfPlace (λ h a r. ReadsEntry h (field_entry (handle_at h a) i) r) place

-- a data word of the object at a place was read
abbrev pub ViewsDatum : ℕ → ℕ → HeapState → Result ℕ Refusal → HeapState → Type 0
ViewsDatum place j = OfPlace (λ h a r. ReadsDatum (handle_at h a) j r) place

-- the object at a place was read
abbrev pub ViewsObject : ℕ → HeapState → Result Object Refusal → HeapState → Type 0
ViewsObject place = OfPlace (λ h a r. TellsOk (handle_at h a) r) place
