use Rattle.std.proofs.Common.{◌≡◌, replicate}
use Rattle.page.proofs.copies.many.Given as goal

abbrev pub invariant-loop-item : goal.invariant-loop-item
invariant-loop-item g l = l.items.items ≡ replicate l._item l.item
