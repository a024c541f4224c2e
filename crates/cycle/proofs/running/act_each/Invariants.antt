use Rattle.std.proofs.Common.{◌≡◌, ◌≤◌, ◌++◌, length}
use Rattle.std.specs.Vec.{vec_capacity}
use Rattle.std.specs.Vec.Iter.{into_iter_items}
use Rattle.cycle.specs.Replays.{Ran}
use Rattle.cycle.proofs.running.act_each.Given as goal

abbrev pub invariant-steps : goal.invariant-steps
invariant-steps l = record {
  goes : (goal.iterator-steps).can_next l.actor-iterator;
  ends : (goal.iterator-steps).is_finite l.actor-iterator;
  ran : Ran l.fn.book l.yielded l.replies.items l.book;
  parts : l.yielded ++ into_iter_items l.actor-iterator ≡ l.fn.steps.items;
  count : length l.replies.items ≡ length l.yielded;
  room : length l.fn.steps.items ≤ vec_capacity l.replies;
}
