-- An address that may be missing, by one number.
use Rattle.std.specs.Prelude.{◌≡◌, ◌⊎◌, ◌==◌, ℕ, Option, None, Some, if◌then◌else◌}
use Rattle.std.proofs.Common.{arith}
use Rattle.std.proofs.lemmas.Bool.Decides.{nat_tests}
use Rattle.refword.specs.Words.{IsAddress}

-- the number is 0 if the address is missing
abbrev pub place_of : ℕ → Option ℕ
place_of n = if n == 0 then None else Some n

abbrev pub IsPlace : ℕ → Type 0
IsPlace n = (n ≡ 0) ⊎ IsAddress n

abbrev pub number_of : Option ℕ → ℕ
number_of None = 0
number_of (Some n) = n

pub number_again : (n : ℕ) → number_of (place_of n) ≡ n
number_again n = grind (arith, nat_tests)
