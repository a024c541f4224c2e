use Rattle.std.proofs.Common.{ap, length, arith}
use Rattle.markbits.proofs.ManyRows.{blank_more}
use Rattle.markbits.proofs.rows.Rows.clear_all.Goals as goal

pub loop-index-preserved : goal.loop-index-preserved
loop-index-preserved c =
    blank_more c.loop-index.self-inside.rows.items _ c.loop-index.index _ _ c.loop-index.invariant
    (omega (
      arith,
      c.loop-index-test.true,
      c.len-index-end.ensures,
      c.self.inside.rows.ok.0,
      ap length c.self.view_is,
      c.loop-index.invariant.2,
    )) c.index_mut-row.ensures.value c.clear.ensures
