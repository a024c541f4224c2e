use Rattle.std.proofs.Common.{arith}
use Rattle.verify.proofs.Walking.{walk_begun, begun_left}
use Rattle.verify.proofs.walk.Walk.finish.Goals as goal

pub visit_fields-requires-clause-walk : goal.visit_fields-requires-clause-walk
visit_fields-requires-clause-walk c =
    let e = c.in-Some.ensures in
    walk_begun _ _ c.loop-address.self _ c.loop-address.invariant.walk e.spots e.waiting

pub loop-address-smaller : goal.loop-address-smaller
loop-address-smaller c =
    let e = c.in-Some.ensures in
    let b = begun_left c.in-Some.address c.loop-address.self c.next.new.self e.spots e.waiting in
    let l = c.visit_fields.ensures.left in
    omega arith
