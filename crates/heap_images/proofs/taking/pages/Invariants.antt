use Rattle.std.proofs.Common.{◌≡◌, map}
use Rattle.std.specs.List.{range_with_len}
use Rattle.verify.specs.Pictures.{page_data}
use Rattle.heap_images.proofs.taking.pages.Given as goal

abbrev pub invariant-loop-index : goal.invariant-loop-index
invariant-loop-index l = l.pages.items ≡ map (page_data l.fn.heap) (range_with_len 1 l.index)
