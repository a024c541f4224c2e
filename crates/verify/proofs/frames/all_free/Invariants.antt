use Rattle.std.proofs.Common.{◌≡◌, ◌<◌, ℕ, Some, true}
use Rattle.std.specs.List.{slice_get}
use Rattle.verify.specs.Soundness.{may_be_free}
use Rattle.verify.proofs.frames.all_free.Given as goal

abbrev pub invariant-loop-frame : goal.invariant-loop-frame
invariant-loop-frame l = (k f : ℕ) → k < l.frame-index → slice_get l.free k ≡ Some f → may_be_free l.frames l.words f ≡ true
