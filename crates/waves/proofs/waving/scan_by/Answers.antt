use Rattle.std.proofs.Common.{arith}
use Rattle.waves.proofs.Drained.{objects_then}
use Rattle.waves.proofs.waving.scan_by.Goals as goal

pub returns-then-portion-clause-done : goal.returns-then-portion-clause-done
returns-then-portion-clause-done g c = objects_then c.args.heap.now c.loop-done.heap c.scan_some-portion.new.heap
    c.args.worker c.loop-done.done c.scan_some-portion.result.objects c.loop-done.invariant.0
    c.scan_some-portion.ensures.done

pub loop-done-preserved : goal.loop-done-preserved
loop-done-preserved g c = (
  objects_then c.args.heap.now c.loop-done.heap c.scan_some-portion.new.heap
      c.args.worker c.loop-done.done c.scan_some-portion.result.objects c.loop-done.invariant.0
      c.scan_some-portion.ensures.done,
  omega (arith, c.loop-done-test.true, c.scan_some-portion.ensures.few, c.loop-done.invariant.1),
)
