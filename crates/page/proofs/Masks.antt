-- The remainder by a power of two, by a mask.
use Rattle.std.proofs.Common.{◌≡◌, ℕ, ◌-◌, ◌%◌, ◌^◌, ap, ◌∙◌}
use Rattle.std.specs.Prelude.{bit_and}
use Rattle.std.proofs.lemmas.Nat.{and_mask}

-- the mask of a power
pub masked : (a k n m : ℕ) → m ≡ 2 ^ k - 1 → 2 ^ k ≡ n → bit_and a m ≡ a % n
masked a k n m mask is = ap (bit_and a) mask ∙ and_mask a k ∙ ap (λ x. a % x) is
