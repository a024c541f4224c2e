use Rattle.std.proofs.Common.{◌≡◌, drop}
use Rattle.cycle.specs.Drains.{verdict}
use Rattle.cycle.proofs.draining.verdict.Given as goal

-- the remaining replies have the same first error
abbrev pub invariant-loop-reply : goal.invariant-loop-reply
invariant-loop-reply l = verdict (drop l.reply-index l.replies) ≡ verdict l.replies
