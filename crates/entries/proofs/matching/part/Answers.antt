use Rattle.std.proofs.Common.{arith}
use Rattle.entries.proofs.Parts.{part_more}
use Rattle.entries.proofs.matching.part.Goals as goal

pub loop-index-preserved : goal.loop-index-preserved
loop-index-preserved c =
    part_more c.args.actor c.args.history.now.entries c.loop-index.list.entries c.enter_at.new.list.entries
    c.loop-index.index (omega (arith, c.loop-index-test.true, c.len-index-end.ensures.value)) c.loop-index.invariant
    c.in_ok-enter_at.ensures
