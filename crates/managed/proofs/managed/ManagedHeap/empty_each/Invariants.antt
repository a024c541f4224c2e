use Rattle.std.proofs.Common.{◌≡◌, drop}
use Rattle.managed.proofs.Emptied.{IsRest}
use Rattle.managed.proofs.managed.ManagedHeap.empty_each.Given as goal

-- the pages that are left end as all of them do, in the same phase
abbrev pub invariant-loop-index : goal.invariant-loop-index
invariant-loop-index l = record {
  rest : IsRest l.worker l.fn.self l.pages l.self (drop l.index l.pages);
  phase : l.self.phase ≡ l.fn.self.phase;
}
