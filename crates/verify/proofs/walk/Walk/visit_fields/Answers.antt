use Rattle.std.proofs.Common.{sym, ◌∙◌, ◌≡◌, Some, None, arith}
use Rattle.verify.specs.Walks.{target, with_visit}
use Rattle.verify.proofs.Visiting.{visited_left, visited_keeps}
use Rattle.verify.proofs.Walking.{walk_past, walk_visited, walk_passed, target_bit, target_filled}
use Rattle.verify.proofs.walk.Walk.visit_fields.Goals as goal
use Rattle.verify.proofs.walk.Walk.visit_fields.Goals.{in-Some, in_default}

pub loop-k-preserved : goal.loop-k-preserved
loop-k-preserved c =
    let i = c.args.chart.now in
    let v = c.loop-k.invariant in
    elim c.match-target.branch [
      | in-Some w ↦
          let e : c.match-target.self ≡ with_visit c.loop-k.self w.in-Some.to = w.self-is ∙ w.visit.ensures in
          let t : target i c.args.address c.loop-k.k ≡ Some w.in-Some.to = sym c.target.ensures ∙ w.in-Some.is in
          let l = target_bit i _ _ _ _ c.requires.sized v.walk t in
          rw e record {
            walk = walk_visited i _ _ _ _ c.requires.sized v.walk t;
            kept = λ a m. visited_keeps _ _ l a (v.kept a m);
            left = visited_left _ _ l ∙ v.left;
          }
      | in_default w ↦
          let t : target i c.args.address c.loop-k.k ≡ None = sym c.target.ensures ∙ w.in_default.is in
          rw w.self-is record {
            walk = walk_passed i _ _ _ v.walk t;
            kept = v.kept;
            left = v.left;
          }
    ]

pub visit-requires : goal.visit-requires
visit-requires c =
    target_filled c.args.chart.now _ _ _ _ c.loop-k.invariant.walk (sym c.target.ensures ∙ c.in-Some.is)

pub returns-clause-walk : goal.returns-clause-walk
returns-clause-walk c =
    walk_past c.args.chart.now c.image.result.now c.args.address c.loop-k.k c.refs_at-k-end.result _
    c.image.ensures c.loop-k.invariant.walk (omega arith) c.refs_at-k-end.ensures
