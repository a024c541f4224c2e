-- Scans of objects that are listed.
use Rattle.std.specs.Prelude.{◌≡◌, ℕ, Bool, true, false}
use Rattle.model.specs.Scans.{is_free_todo}
use Rattle.model.specs.States.{HeapState}
use Rattle.drains.specs.Drains.{scanned}

-- the object at an address was scanned, as it was grey and no worker had it; or nothing was done
abbrev pub IsScanned : HeapState → ℕ → Bool → HeapState → Type 0
IsScanned h a false g = g ≡ h
IsScanned h a true g = (is_free_todo h a ≡ true) × (g ≡ scanned h a)
