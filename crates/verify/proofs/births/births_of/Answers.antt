use Rattle.std.proofs.Common.{eqb, refl}
use Rattle.std.specs.HashMap.{get}
use Rattle.verify.proofs.Looking.{births_jump, births_all}
use Rattle.verify.proofs.births.births_of.Goals as goal

pub loop-address-preserved : goal.loop-address-preserved
loop-address-preserved c =
    let noted = get eqb c.loop-address.births.addresses in
    c.in_ok-note_reached.ensures c.in-Some.address refl
    (births_jump c.args.chart.now c.args.spots.now c.requires.spots noted c.loop-address.from c.in-Some.address
    c.in-Some.ensures.next c.loop-address.invariant)

pub returns : goal.returns
returns c =
    births_all c.args.chart.now c.args.spots.now c.requires.spots (get eqb c.loop-address.births.addresses)
    c.loop-address.from _ c.in_default.ensures.next c.loop-address.invariant
