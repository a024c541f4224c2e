use Rattle.verify.proofs.Walking.{walk_new}
use Rattle.verify.proofs.walk.Walk.new.Goals as goal

pub returns : goal.returns
returns c =
    let e = c.in_ok-spots.ensures in
    rw c.in_ok-waiting.ensures.items (walk_new c.args.image.now c.in_ok-spots.spots c.requires.sized e.len e.each)
