use Rattle.std.proofs.Common.{◌≡◌, take}
use Rattle.page_frames.proofs.kept.are_same.Given as goal

abbrev pub invariant-loop-index : goal.invariant-loop-index
invariant-loop-index l = take l.index l.fn.one ≡ take l.index l.fn.other
