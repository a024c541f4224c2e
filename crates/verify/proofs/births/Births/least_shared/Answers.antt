use Rattle.std.proofs.Common.{eqb, arith}
use Rattle.std.specs.HashMap.{get}
use Rattle.verify.proofs.Looking.{shares_jump, shares_all}
use Rattle.verify.proofs.Sharing.{least_next}
use Rattle.verify.proofs.births.Births.least_shared.Goals as goal

pub loop-address-preserved : goal.loop-address-preserved
loop-address-preserved c =
    let noted = get eqb c.args.self.now.addresses in
    let l = c.loop-address in
    let next = c.in-Some.ensures.next in
    let jumped = shares_jump c.args.chart.now c.args.spots.now c.requires.spots noted l.from c.in-Some.address l.least
    next l.invariant.least in
    record {
      least = rw c.lesser-least.ensures (least_next c.args.chart.now noted c.in-Some.address l.least c.shared_at.result
          jumped c.shared_at.ensures);
      within = omega (arith, next.1);
    }

pub returns : goal.returns
returns c =
    let noted = get eqb c.args.self.now.addresses in
    let l = c.loop-address in
    shares_all c.args.chart.now c.args.spots.now c.requires.spots noted l.from _ l.least l.invariant.within
    c.in_default.ensures.next l.invariant.least
