use Rattle.std.proofs.Common.{◌+◌, refl}
use Rattle.relocate.proofs.Runs.{run_done}
use Rattle.relocate.proofs.whole.copy_runs.Goals as goal

pub loop-first-preserved : goal.loop-first-preserved
loop-first-preserved c = run_done c.args.heap.now c.loop-first.heap c.raw_copy_run.new.self c.args.page
    c.loop-first.first
    (c.loop-first.first + c.run_at-run.result.count) c.args.count c.run_at-run.result.target c.run_at-run.result.count
    c.loop-first.invariant c.run_at-run.ensures c.raw_copy_run.ensures refl
