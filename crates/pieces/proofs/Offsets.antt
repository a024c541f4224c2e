-- The offset of an address in a page whose size is a power of two.
use Rattle.std.proofs.Common.{◌≡◌, ℕ, ◌*◌, ◌-◌, ◌%◌, ◌^◌, ◌<◌, sym, ap, ◌∙◌}
use Rattle.std.specs.Prelude.{bit_and}
use Rattle.std.proofs.lemmas.Nat.{and_mask, one_shl}

pub masked : (n address k : ℕ) → k < 64 → 1 * 2 ^ k % 2 ^ 64 ≡ n
    → bit_and address (1 * 2 ^ k % 2 ^ 64 - 1) ≡ address % n
masked n address k small is =
    ap (λ m. bit_and address (m - 1)) (one_shl k 64 small) ∙ and_mask address k
    ∙ ap (λ m. address % m) (sym (one_shl k 64 small) ∙ is)
