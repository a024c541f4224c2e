use Rattle.std.proofs.Common.{◌≡◌, take}
use Rattle.heap_images.proofs.taking.frames.Given as goal

abbrev pub invariant-loop-number : goal.invariant-loop-number
invariant-loop-number l = l.memory.items ≡ take l.number l.fn.frames
