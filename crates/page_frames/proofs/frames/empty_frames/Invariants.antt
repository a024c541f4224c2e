use Rattle.std.proofs.Common.{◌≡◌, [], replicate}
use Rattle.page_frames.proofs.frames.empty_frames.Given as goal

abbrev pub invariant-loop-frame : goal.invariant-loop-frame
invariant-loop-frame l = l.frames.items ≡ replicate l._frame []
