-- The objects of registers.
use Rattle.model.specs.Owning.{IsStore}
use Rattle.model.specs.Plain.{PlainHeap}
use Rattle.model.specs.States.{HeapState}
use Rattle.page.specs.Whole.{AreWhole}
use Rattle.refinement.specs.Standing.{Holds}

-- if the invariant holds, the object of a usable register lies completely on its page, and the addresses in registers
-- and such objects are on pages that have records
abbrev pub NamesWhole : Type 0
NamesWhole = (h : HeapState) (p p0 : PlainHeap) → IsStore h.store → Holds h p p0 → AreWhole h
