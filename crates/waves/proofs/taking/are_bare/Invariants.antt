use Rattle.std.proofs.Common.{◌≡◌, ◌≤◌, ◌<◌, ℕ, [], get_or}
use Rattle.waves.proofs.taking.are_bare.Given as goal

abbrev pub invariant-loop-index : goal.invariant-loop-index
invariant-loop-index l =
    (j : ℕ) → l.from ≤ j → j < l.index → (get_or l.heap.mark j [] ≡ []) × (get_or l.heap.todo j [] ≡ [])
