use Rattle.std.proofs.Common.{◌≡◌, map, take}
use Rattle.verify.specs.Pictures.{registers_of}
use Rattle.heap_images.proofs.taking.registers.Given as goal

abbrev pub invariant-loop-number : goal.invariant-loop-number
invariant-loop-number l = l.registers.items ≡ map registers_of (take l.number l.fn.threads)
