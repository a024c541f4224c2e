use Rattle.std.proofs.Common.{◌≡◌, ◌<◌, ℕ, Some}
use Rattle.std.specs.List.{slice_get}
use Rattle.verify.specs.Images.{PageData}
use Rattle.verify.specs.Soundness.{HasItsFrame}
use Rattle.verify.proofs.frames.all_framed.Given as goal

abbrev pub invariant-loop-page : goal.invariant-loop-page
invariant-loop-page l = (k : ℕ) (x : PageData) → k < l.page-index → slice_get l.pages k ≡ Some x → HasItsFrame x
