use Rattle.std.proofs.Common.{arith, refl}
use Rattle.page.proofs.Swapping.{parts_next, parts_last, same_rest, short_part}
use Rattle.page.proofs.owned.swap_parts.Goals as goal

pub loop-index-init : goal.loop-index-init
loop-index-init c = (refl, λ after rest s. s)

pub loop-index-preserved : goal.loop-index-preserved
loop-index-preserved c = (
  same_rest c.args.parts.now c.loop-index.parts c.loop-index.index c.swap_part.new.part c.loop-index.invariant.0,
  parts_next c.args.records.now c.args.frames.now c.args.parts.now c.loop-index.index c.loop-index.frames
      c.swap_part.new.frames c.loop-index.parts c.index-parts-index.result c.swap_part.new.part
      c.loop-index.invariant.1 (omega (arith, c.loop-index-test.true, c.loop-index.auto.parts))
      c.swap_part.ensures.pages c.swap_part.ensures.rest,
)

pub swap_part-requires : goal.swap_part-requires
swap_part-requires c = record {
  few = short_part c.args.parts.now c.loop-index.parts c.loop-index.index c.index-parts-index.result c.requires
      c.loop-index.invariant.0 (omega (arith, c.loop-index-test.true, c.loop-index.auto.parts));
}

pub returns : goal.returns
returns c =
    parts_last c.args.records.now c.args.frames.now c.args.parts.now c.loop-index.index c.loop-index.frames
    c.loop-index.parts c.loop-index.invariant.1 (omega (arith, c.loop-index-test.false, c.loop-index.auto.parts))
