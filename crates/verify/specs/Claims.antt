-- The search for frames without an owner, or that are claimed twice.
use Rattle.std.specs.Prelude.{◌≡◌, ◌<◌, ℕ, Bool, false, List, MatchBool, get_or, nat_lt}
use Rattle.verify.specs.Soundness.{as_number}

-- a Boolean is true exactly if a proposition holds
abbrev pub TellsIf : Bool → Type 0 → Type 0
TellsIf b P = MatchBool b P (P → ⊥)

-- how often a frame is noted, which is at most once
abbrev pub noted : List Bool → ℕ → ℕ
noted seen f = as_number (get_or seen f false)

-- each frame is noted as often as it is claimed
abbrev pub AreNoted : List Bool → (ℕ → ℕ) → Type 0
AreNoted seen claims = (f : ℕ) → claims f ≡ noted seen f

-- some frame is claimed more often than allowed, which is once below n, and never from n on
abbrev pub IsOverclaimed : ℕ → (ℕ → ℕ) → Type 0
IsOverclaimed n claims = (f : ℕ) × (as_number (nat_lt f n) < claims f)
