use Rattle.std.proofs.Common.{arith, refl}
use Rattle.page.proofs.Swapping.{same_rest, short_part}
use Rattle.page_rows.proofs.SwappedRows.{part_rows_next, part_rows_last}
use Rattle.page_rows.proofs.owning.swap_all_rows.Goals as goal

pub loop-index-init : goal.loop-index-init
loop-index-init c = (refl, λ marked grey rest s. s)

pub loop-index-preserved : goal.loop-index-preserved
loop-index-preserved c = (
  same_rest c.args.parts.now c.loop-index.parts c.loop-index.index c.swap_part_rows.new.part c.loop-index.invariant.0,
  part_rows_next c.args.mark.now c.args.todo.now c.args.parts.now c.loop-index.index c.loop-index.mark
      c.loop-index.todo c.swap_part_rows.new.mark c.swap_part_rows.new.todo c.loop-index.parts
      c.index-parts-index.result c.swap_part_rows.new.part c.loop-index.invariant.1
      (omega (arith, c.loop-index-test.true, c.loop-index.auto.parts)) c.swap_part_rows.ensures.pages
      c.swap_part_rows.ensures.rest,
)

pub swap_part_rows-requires : goal.swap_part_rows-requires
swap_part_rows-requires c = record {
  few = short_part c.args.parts.now c.loop-index.parts c.loop-index.index c.index-parts-index.result c.requires
      c.loop-index.invariant.0 (omega (arith, c.loop-index-test.true, c.loop-index.auto.parts));
}

pub returns : goal.returns
returns c =
    part_rows_last c.args.mark.now c.args.todo.now c.args.parts.now c.loop-index.index c.loop-index.mark
    c.loop-index.todo c.loop-index.parts c.loop-index.invariant.1
    (omega (arith, c.loop-index-test.false, c.loop-index.auto.parts))
