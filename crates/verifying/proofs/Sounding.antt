-- The verdict on a managed heap.
use Rattle.std.proofs.Common.{◌≡◌}
use Rattle.std.specs.Prelude.{Result, IfOk, Ok, Err}
use Rattle.model.specs.Holding.{IsHeap}
use Rattle.model.specs.Owning.{IsStore}
use Rattle.model.specs.States.{HeapState}
use Rattle.managed.specs.Managing.{Promises}
use Rattle.heap_images.specs.Laws.{ImagesSound}
use Rattle.verify.specs.declared.verdict.Verdict.{Verdict}
use Rattle.verify.specs.declared.verdict.Verdict.TheVariants.{Sound}
use Rattle.verify.specs.Faults.{VerdictIs, OneVerdict}
use Rattle.verify.specs.Pictures.{image_of}

pub held_sound : {E : Type 0} (h : HeapState) (r : Result Verdict E) → Promises h → IsStore h.store → IsHeap h
    → ImagesSound
    → OneVerdict → IfOk r (VerdictIs (image_of h)) → IfOk r (λ (v : Verdict). v ≡ Sound)
held_sound h (Ok v) k store heap sound one found = one (image_of h) v Sound found (sound h _ _ store heap k.holds)
held_sound h (Err e) k store heap sound one found = tt
