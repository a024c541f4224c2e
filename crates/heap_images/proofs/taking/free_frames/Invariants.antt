use Rattle.std.proofs.Common.{◌≡◌, filter}
use Rattle.std.specs.List.{slice_get, range_with_len}
use Rattle.verify.specs.Pictures.{is_free}
use Rattle.heap_images.proofs.taking.free_frames.Given as goal

abbrev pub invariant-loop-frame : goal.invariant-loop-frame
invariant-loop-frame l = l.free.items ≡ filter (λ f. is_free (slice_get l.fn.store.owners f)) (range_with_len 0 l.frame)
