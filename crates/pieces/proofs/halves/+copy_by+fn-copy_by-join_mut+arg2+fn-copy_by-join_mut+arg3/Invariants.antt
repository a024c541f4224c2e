use Rattle.std.proofs.Common.{◌+◌, ◌*◌}
use Rattle.pieces.proofs.halves.+copy_by+fn-copy_by-join_mut+arg2+fn-copy_by-join_mut+arg3.Given as goal

abbrev pub decreases-copy_by : goal.decreases-copy_by
decreases-copy_by g l = 2 * l.parts

abbrev pub decreases-join_mut+arg2 : goal.decreases-join_mut+arg2
decreases-join_mut+arg2 g l = 2 * l.left + 1

abbrev pub decreases-join_mut+arg3 : goal.decreases-join_mut+arg3
decreases-join_mut+arg3 g l = 2 * l.right + 1
