use Rattle.std.proofs.Common.{◌≡◌, ◌<◌, ◌≤◌, ◌+◌, ℕ, false}
use Rattle.choosing.specs.Choices.{is_in_use}
use Rattle.choosing.proofs.threading.last_in_use.Given as goal

-- the last pages, as many as were looked at, aren't in use
abbrev pub invariant-loop-index : goal.invariant-loop-index
invariant-loop-index l = (page : ℕ) → l.pages < page + l.index → page ≤ l.pages → is_in_use l.heap page ≡ false
