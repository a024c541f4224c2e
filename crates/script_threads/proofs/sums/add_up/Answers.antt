use Rattle.std.proofs.Common.{◌∙◌, ◌<◌, arith, length}
use Rattle.script_threads.specs.Settled.{birth_of, datum_of}
use Rattle.script_threads.proofs.Totals.{sum_more}
use Rattle.script_threads.proofs.sums.add_up.Goals as goal

pub loop-index-preserved : goal.loop-index-preserved
loop-index-preserved c =
    let before = c.loop-index.invariant in
    let near : c.loop-index.index < length c.args.list.now.entries =
    omega (arith, c.loop-index-test.true, c.len-index-end.ensures.value) in
    record {
      births = sum_more birth_of c.loop-index.index c.args.list.now.entries c.answer_at-answer.result
          c.loop-index.births c.birth_of-births.result near before.births c.answer_at-answer.ensures
          c.birth_of-births.ensures.value;
      total = sum_more datum_of c.loop-index.index c.args.list.now.entries c.answer_at-answer.result
          c.loop-index.total c.from-total.result near before.total c.answer_at-answer.ensures
          (c.from-total.ensures ∙ c.datum_of.ensures);
      few = omega (arith, before.few, c.birth_of-births.ensures.bound);
      small = omega (arith, before.small, c.from-total.ensures, c.datum_of.type_inv);
    }
