use Rattle.verify.specs.Walks.{WalkData}
use Rattle.verify.proofs.Passing.{found_all, passed_kept, passed_good, walk_tells}
use Rattle.verify.proofs.roots.find_reached.Goals as goal

pub returns : goal.returns
returns c =
    let i = c.args.chart.now in
    let v : WalkData = c.pass_roots.new.self in
    let w : WalkData = c.finish.new.self in
    let p = found_all i v _ _ c.pass_roots.ensures.found c.in_default.is in
    let e = c.finish.ensures in
    (rw c.into_spots.ensures (walk_tells i w e.walk e.done (passed_kept i v w _ e.kept p)), passed_good i v _ p)
