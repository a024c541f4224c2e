use Rattle.managed.proofs.Several.{IsRestOfTests}
use Rattle.managed.proofs.managed.ManagedHeap.may_store_each.Given as goal

-- the sources that are left are tested as all are
abbrev pub invariant-loop-index : goal.invariant-loop-index
invariant-loop-index l = IsRestOfTests l.self l.thread l.target l.sources l.index
