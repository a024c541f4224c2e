use Rattle.heap_images.proofs.Sound.{image_sound}
use Rattle.heap_images.proofs.law.Goals as goal

pub returns : goal.returns
returns c = λ h p p0 s d k. image_sound s d k
