use Rattle.std.proofs.Common.{refl, arith, reverse}
use Rattle.drains.proofs.Waiting.{objects_begin, object_more, alone_first, alone_still}
use Rattle.drains.proofs.draining.scan_objects.Goals as goal

pub loop-done-init : goal.loop-done-init
loop-done-init c =
    let (done, waiting) =
    objects_begin c.args.heap.now c.args.worker c.new-waiting.result.items c.requires c.new-waiting.ensures in
    (done, waiting, alone_first c.args.heap.now.workers c.is_alone-alone.result c.is_alone-alone.ensures, λ first. refl)

pub loop-done-preserved : goal.loop-done-preserved
loop-done-preserved c = (
  object_more c.args.heap.now c.loop-done.heap c.next_object.new.heap c.scan_object-scanned.new.heap c.args.worker
      c.loop-done.done c.in-Some.address (reverse c.loop-done.waiting.items) (reverse c.next_object.new.waiting.items)
      (reverse c.scan_object-scanned.new.waiting.items) c.loop-done.invariant.0 c.law.ensures.store c.law.ensures.heap
      c.in-Some.ensures c.scan_object-scanned.ensures.scanned,
  c.scan_object-scanned.ensures.waits,
  alone_still c.loop-done.heap c.next_object.new.heap c.scan_object-scanned.new.heap c.is_alone-alone.result
      c.in-Some.address (reverse c.loop-done.waiting.items) (reverse c.next_object.new.waiting.items)
      (reverse c.scan_object-scanned.new.waiting.items) c.loop-done.invariant.2 c.in-Some.ensures
      c.scan_object-scanned.ensures.scanned,
  λ first. absurd (omega (arith, first)),
)
