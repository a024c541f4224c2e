-- What images of heaps promise.
use Rattle.model.specs.Owning.{IsStore}
use Rattle.model.specs.Holding.{IsHeap}
use Rattle.model.specs.States.{HeapState}
use Rattle.model.specs.Plain.{PlainHeap}
use Rattle.refinement.specs.Standing.{Holds}
use Rattle.verify.specs.Soundness.{IsSound}
use Rattle.verify.specs.Pictures.{image_of}

-- the image of a heap that represents a reference model is sound; p0 is the reference model when the last mark began
abbrev pub ImagesSound : Type 0
ImagesSound = (h : HeapState) (p p0 : PlainHeap) → IsStore h.store → IsHeap h → Holds h p p0 → IsSound (image_of h)
