-- The search for two objects of one birth.
use Rattle.std.specs.Prelude.{◌≡◌, ◌≢◌, ◌⊎◌, ◌<◌, ◌≤◌, ℕ, false, Option, Some, None, nat_le, if◌then◌else◌}
use Rattle.verify.specs.Images.{ImageData, is_copied}
use Rattle.verify.specs.Soundness.{IsReached, IsBirthAt, AreTwins}

-- the address noted for a birth is reached and has it, and for the birth of each reached address below n one is noted
pub record TellsBirths (i : ImageData) (n : ℕ) (noted : ℕ → Option ℕ) : Type 0 where
  pub reached : (b a : ℕ) → noted b ≡ Some a → IsReached i a
  pub births : (b a : ℕ) → noted b ≡ Some a → IsBirthAt i a b
  pub all : (a b : ℕ) → a < n → IsReached i a → IsBirthAt i a b → (c : ℕ) × (noted b ≡ Some c)

-- the object at address c is reached or wasn't copied, and another address is noted for its birth
pub record SharesAt (i : ImageData) (noted : ℕ → Option ℕ) (c b : ℕ) : Type 0 where
  pub other : IsReached i c ⊎ (is_copied i c ≡ false)
  pub birth : IsBirthAt i c b
  pub address : ℕ
  pub is_noted : noted b ≡ Some address
  pub apart : address ≢ c

-- there is such an address below n
pub record SharesBelow (i : ImageData) (noted : ℕ → Option ℕ) (n b : ℕ) : Type 0 where
  pub place : ℕ
  pub below : place < n
  pub shares : SharesAt i noted place b

-- the least number with a property; none if there is no such number
abbrev pub IsLeast : (ℕ → Type 0) → Option ℕ → Type 0
IsLeast P None = (b : ℕ) → P b → ⊥
IsLeast P (Some m) = P m × ((b : ℕ) → P b → m ≤ b)

-- the only number with a property; none if there is no such number
abbrev pub IsOnly : (ℕ → Type 0) → Option ℕ → Type 0
IsOnly P None = (b : ℕ) → P b → ⊥
IsOnly P (Some m) = P m × ((b : ℕ) → P b → b ≡ m)

-- two objects have this birth
pub record HasTwins (i : ImageData) (b : ℕ) : Type 0 where
  pub first : ℕ
  pub second : ℕ
  pub twins : AreTwins i b first second

-- the lesser of two numbers that may be missing
abbrev pub lesser : Option ℕ → Option ℕ → Option ℕ
lesser None o = o
lesser (Some a) None = Some a
lesser (Some a) (Some b) = if nat_le a b then Some a else Some b
