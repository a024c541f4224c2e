use Rattle.std.proofs.Common.{◌≡◌, ◌<◌, ℕ, Some, true}
use Rattle.std.specs.List.{slice_get}
use Rattle.verify.specs.Images.{PageData}
use Rattle.verify.specs.Soundness.{is_filled}
use Rattle.verify.proofs.frames.all_filled.Given as goal

abbrev pub invariant-loop-page : goal.invariant-loop-page
invariant-loop-page l = (k : ℕ) (x : PageData) → k < l.page-index → slice_get l.pages k ≡ Some x
    → is_filled l.frames l.words x.frame ≡ true
