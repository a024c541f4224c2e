use Rattle.std.proofs.Common.{◌≡◌, ◌+◌, ◌-◌}
use Rattle.forward.specs.Flags.{put_run}
use Rattle.forward.proofs.flags.Flags.set_each.Given as goal

abbrev pub invariant-loop-index : goal.invariant-loop-index
invariant-loop-index l = put_run l.fn.first l.fn.count l.fn.self ≡ put_run (l.fn.first + l.index) (l.fn.count - l.index) l.self
