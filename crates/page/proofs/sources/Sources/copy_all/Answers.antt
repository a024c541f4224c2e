use Rattle.std.proofs.Common.{arith}
use Rattle.page.specs.Filling.{laid_runs}
use Rattle.page.proofs.Filled.{runs_last, runs_next}
use Rattle.page.proofs.sources.Sources.copy_all.Goals as goal

pub loop-index-preserved : goal.loop-index-preserved
loop-index-preserved c = runs_next c.args.self.now c.loop-index.target c.copy.new.target
    (laid_runs c.args.self.now c.args.runs.now c.args.target.now) c.args.runs.now c.loop-index.index _
    c.loop-index.invariant (omega (arith, c.loop-index-test.true)) c.copy.ensures

pub returns : goal.returns
returns c = runs_last c.args.self.now c.loop-index.target
    (laid_runs c.args.self.now c.args.runs.now c.args.target.now) c.args.runs.now c.loop-index.index
    c.loop-index.invariant (omega (arith, c.loop-index-test.false))
