-- The heap of a recorded heap is sound.
use Rattle.std.proofs.Common.{◌≡◌}
use Rattle.cycle.specs.Books.{BookState}
use Rattle.cycle.specs.Replays.{IsBook}
use Rattle.heap_images.specs.Laws.{ImagesSound}
use Rattle.verify.specs.Faults.{OneVerdict, VerdictIs}
use Rattle.verify.specs.Pictures.{image_of}
use Rattle.verify.specs.declared.verdict.Verdict.{Verdict}
use Rattle.verify.specs.declared.verdict.Verdict.TheVariants.{Sound}

-- the verdict on it is that it is sound
pub book_sound : (b : BookState) (v : Verdict) → IsBook b → ImagesSound → OneVerdict → VerdictIs (image_of b.heap) v
    → v ≡ Sound
book_sound b v k sound one found = one (image_of b.heap) v Sound found (sound b.heap _ _ k.store k.heap k.holds)
