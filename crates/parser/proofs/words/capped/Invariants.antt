use Rattle.std.proofs.Common.{◌≡◌, ◌≤◌, ◌^◌, drop}
use Rattle.parser.specs.Words.{capped_from}
use Rattle.parser.proofs.words.capped.Given as goal

-- the remaining digits lead to the same number
abbrev pub invariant-loop-b : goal.invariant-loop-b
invariant-loop-b l =
    record { bound : l.value ≤ 2 ^ 64; rest : capped_from l.value (drop l.b-index l.digits) ≡ capped_from 0 l.digits }
