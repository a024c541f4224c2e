use Rattle.std.proofs.Common.{◌≡◌, drop, take}
use Rattle.model.specs.declared.records.PageState.TheVariants.{Closed}
use Rattle.model.specs.Owning.{Each}
use Rattle.model.specs.Protections.{all_ripe}
use Rattle.model.specs.Stores.{state_at}
use Rattle.relocate.proofs.ripe.all_ripe.Given as goal

abbrev pub invariant-loop-index : goal.invariant-loop-index
invariant-loop-index l = (all_ripe l.fn.heap (drop l.index l.fn.pages) ≡ all_ripe l.fn.heap l.fn.pages)
    × Each (take l.index l.fn.pages) (λ n. state_at l.fn.heap.store n ≡ Closed)
