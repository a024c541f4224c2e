-- A heap as text.
use Rattle.std.specs.Prelude.{◌≡◌, ◌⊎◌, ℕ, List, ◌++◌, take, drop, length, Option, Some, None}
use Rattle.model.specs.States.{HeapState}
use Rattle.reporting.specs.Reports.{heap_text}
use Rattle.foreign.specs.declared.held.Held.{Held}
use Rattle.foreign.specs.Codes.{NO_HEAP, NO_MEMORY}

-- the space with as much of a text as fits at its front
abbrev pub written : List ℕ → List ℕ → List ℕ
written text room = take (length room) text ++ drop (length text) room

-- nothing was written: the space and the length are as they were
abbrev pub IsUnwritten : List ℕ → List ℕ → ℕ → ℕ → Type 0
IsUnwritten room new before n = (new ≡ room) × (n ≡ before)

-- out of memory, and nothing was written; or C gets the heap's text and its length
abbrev pub ReportsHeap : HeapState → ℕ → List ℕ → List ℕ → ℕ → ℕ → Type 0
ReportsHeap h code room new before n =
    ((code ≡ NO_MEMORY) × IsUnwritten room new before n)
    ⊎ ((code ≡ 0) × (new ≡ written (heap_text h) room) × (n ≡ length (heap_text h)))

-- ReportsHeap if there is a heap; else nothing was written
abbrev pub Reports : Option Held → ℕ → List ℕ → List ℕ → ℕ → ℕ → Type 0
Reports None code room new before n = (code ≡ NO_HEAP) × IsUnwritten room new before n
Reports (Some h) code room new before n = ReportsHeap h.heap code room new before n
