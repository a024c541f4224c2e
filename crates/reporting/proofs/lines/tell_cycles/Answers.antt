use Rattle.std.proofs.Common.{arith}
use Rattle.reporting.proofs.Telling.{cycle_item, cycles_told}
use Rattle.reporting.proofs.lines.tell_cycles.Goals as goal

pub loop-index-preserved : goal.loop-index-preserved
loop-index-preserved g c =
    record {
      count = omega (arith, c.loop-index.invariant.count, c.next_cycle-number.ensures.bound);
      told = cycle_item c.loop-index.number c.next_cycle-number.result c.loop-index.index c.args.history.now.entries
          c.answer_at-answer.result _ _ _ _ c.loop-index.invariant.told
          (omega (arith, c.loop-index-test.true, c.len-index-end.ensures.value)) c.answer_at-answer.ensures
          c.in_ok-tell_cycle.ensures c.next_cycle-number.ensures.value;
    }

pub returns : goal.returns
returns g c = cycles_told c.loop-index.number c.loop-index.index c.args.history.now.entries
    _ _ _ c.loop-index.invariant.told (omega (arith, c.loop-index-test.false, c.len-index-end.ensures.value))
