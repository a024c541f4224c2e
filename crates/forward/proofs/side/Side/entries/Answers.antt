use Rattle.std.proofs.Common.{ap, length, arith}
use Rattle.forward.proofs.Edited.{taken_more, taken_all}
use Rattle.forward.proofs.Ranked.{entries_many}
use Rattle.forward.proofs.side.Side.entries.Goals as goal

pub loop-index-preserved : goal.loop-index-preserved
loop-index-preserved c = taken_more c.args.self.now c.loop-index.entries.items _ c.loop-index.index c.numbered.result
    c.numbered.ensures c.loop-index.invariant c.in_ok-push.ensures.items

pub returns : goal.returns
returns c = taken_all c.args.self.now c.loop-index.entries.items c.loop-index.index (omega (
  arith,
  c.loop-index-test.false,
  c.len-count.ensures,
  ap length c.self.view_is,
  entries_many c.self.inside.live c.self.inside.places c.self.inside.copied,
)) c.loop-index.invariant

pub numbered-requires : goal.numbered-requires
numbered-requires c = omega (
  arith,
  c.loop-index-test.true,
  c.len-count.ensures,
  ap length c.self.view_is,
  entries_many c.self.inside.live c.self.inside.places c.self.inside.copied,
)
