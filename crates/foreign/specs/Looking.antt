-- Reads of the heap of a handle.
use Rattle.std.specs.Prelude.{◌≡◌, ◌⊎◌, ℕ, Option, Some, None, count_by, is_none}
use Rattle.model.specs.States.{HeapState}
use Rattle.foreign.specs.declared.held.Held.{Held}
use Rattle.foreign.specs.declared.looking.CountsOfC.{CountsOfC}
use Rattle.foreign.specs.Codes.{NO_HEAP, NO_MEMORY}

-- the counts of a heap
abbrev pub IsCountOf : HeapState → CountsOfC → Type 0
IsCountOf h c =
    (c.births ≡ h.births)
    × (c.words ≡ h.config.words)
    × (c.frames ≡ h.config.frames)
    × (c.free ≡ count_by is_none h.store.owners)

-- C gets the counts if there is a heap; else nothing is written
abbrev pub Counts : Option Held → ℕ → CountsOfC → CountsOfC → Type 0
Counts None code old new = (code ≡ NO_HEAP) × (new ≡ old)
Counts (Some h) code old new = (code ≡ 0) × IsCountOf h.heap new

-- the heap is sound, or it is out of memory
abbrev pub Verifies : ℕ → Type 0
Verifies code = (code ≡ 0) ⊎ (code ≡ NO_MEMORY)

-- Verifies, if there is a heap
abbrev pub VerifiesHeld : Option Held → ℕ → Type 0
VerifiesHeld None code = code ≡ NO_HEAP
VerifiesHeld (Some h) code = Verifies code

-- a call that every heap accepts was done if there is one
abbrev pub IsDone : Option Held → ℕ → Type 0
IsDone None code = code ≡ NO_HEAP
IsDone (Some h) code = code ≡ 0

-- nothing is written for C if there is no heap
abbrev pub KeepsUntold : Option Held → ℕ → ℕ → Type 0
KeepsUntold None old new = new ≡ old
KeepsUntold (Some h) old new = Unit {0}

-- the heap is as it was, and a collection in parts has come as far, if there is a heap; else the code is NO_HEAP
abbrev pub Keeps : Option Held → ℕ → Option Held → Type 0
Keeps None code new = (code ≡ NO_HEAP) × (new ≡ None)
Keeps (Some h) code new = (g : Held) × (g.heap ≡ h.heap) × (g.parts ≡ h.parts) × (code ≡ 0) × (new ≡ Some g)
