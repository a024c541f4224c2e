use Rattle.std.proofs.Common.{◌≡◌, ℕ, ◌<◌, Some}
use Rattle.std.specs.List.{slice_get}
use Rattle.relocate.specs.Many.{MayCopyPage}
use Rattle.relocate.proofs.many.may_copy_all.Given as goal

abbrev pub invariant-loop-index : goal.invariant-loop-index
invariant-loop-index l = (i n : ℕ) → i < l.index → slice_get l.pages i ≡ Some n → MayCopyPage l.worker l.heap n
