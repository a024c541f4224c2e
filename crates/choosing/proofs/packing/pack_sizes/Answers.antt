use Rattle.std.proofs.Common.{ap, arith}
use Rattle.choosing.specs.declared.packing.Packing.{Packing}
use Rattle.choosing.proofs.Packed.{all_packed, more_packed, packed_up_to}
use Rattle.choosing.proofs.packing.pack_sizes.Goals as goal

pub loop-number-preserved-then-next-number : goal.loop-number-preserved-then-next-number
loop-number-preserved-then-next-number c = (
  packed_up_to c.args.words c.loop-number.packing c.pack_fitting-packing.result _ c.args.sizes.now c.loop-number.number
      c.fitting-next.result c.if-next-number.true c.fitting-next.ensures.high
      (c.fitting-next.ensures.fits c.if-next-number.true) c.pack_fitting-packing.ensures c.loop-number.invariant.0,
  omega (
    arith,
    c.fitting-next.ensures.low,
    c.loop-number.invariant.1,
    ap (λ (s : Packing). s.target) c.pack_fitting-packing.ensures,
  ),
  c.fitting-next.ensures.high,
)

pub loop-number-preserved : goal.loop-number-preserved
loop-number-preserved c = (
  more_packed c.args.words c.loop-number.packing c.pack_one-packing.result _ c.args.sizes.now c.loop-number.number
      c.size.result c.size.ensures c.pack_one-packing.ensures.value c.loop-number.invariant.0,
  omega (arith, c.loop-number.invariant.1, c.pack_one-packing.ensures.targets),
  omega (arith, c.loop-number-test.true, c.len-count.ensures.value),
)

pub returns : goal.returns
returns c = all_packed c.args.words c.loop-number.packing _ c.args.sizes.now c.loop-number.number
    (omega (arith, c.loop-number-test.false, c.len-count.ensures.value)) c.loop-number.invariant.0
