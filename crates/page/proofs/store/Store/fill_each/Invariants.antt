use Rattle.std.proofs.Common.{◌≡◌, drop}
use Rattle.page.specs.Filling.{all_filled}
use Rattle.page.proofs.store.Store.fill_each.Given as goal

abbrev pub invariant-loop-index : goal.invariant-loop-index
invariant-loop-index l = all_filled l.self l.sides l.layouts (drop l.index l.targets)
    ≡ all_filled l.fn.self l.sides l.layouts l.targets
