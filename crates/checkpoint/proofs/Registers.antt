-- Registers are marked one after the other.
use Rattle.std.proofs.Common.{◌≡◌, ℕ, suc, ◌+◌, ap, arith}
use Rattle.model.specs.States.{HeapState}
use Rattle.model.specs.Checkpoints.{with_marked_register, with_marked_registers}

-- one more register is marked
pub marked_more : (h : HeapState) (t r : ℕ)
    → with_marked_registers h t (r + 1) ≡ with_marked_register (with_marked_registers h t r) t r
marked_more h t r = let more : r + 1 ≡ suc r = omega arith in ap (with_marked_registers h t) more
