use Rattle.std.proofs.Common.{◌≡◌, ◌+◌, take}
use Rattle.managed.specs.Data.{with_data}
use Rattle.managed.proofs.data.write_by_words.Given as goal

abbrev pub invariant-loop-index : goal.invariant-loop-index
invariant-loop-index l = l.heap ≡ with_data l.fn.heap (l.address + l.ahead) (take l.index l.values)
