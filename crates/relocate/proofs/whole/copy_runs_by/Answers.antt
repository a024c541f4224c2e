use Rattle.std.proofs.Common.{◌+◌, refl, arith}
use Rattle.relocate.proofs.Runs.{run_done}
use Rattle.relocate.proofs.whole.copy_runs_by.Goals as goal

pub loop-first-preserved : goal.loop-first-preserved
loop-first-preserved g c = record {
  done = run_done c.args.heap.now c.loop-first.heap c.raw_copy_run_by.new.self c.args.page c.loop-first.first
      (c.loop-first.first + c.run_at-run.result.count) c.args.count c.run_at-run.result.target
      c.run_at-run.result.count c.loop-first.invariant.done c.run_at-run.ensures c.raw_copy_run_by.ensures refl;
  few = omega (arith, c.loop-first.invariant.few, c.run_at-run.ensures.some);
}
