-- The walk along references that finds all reached objects: a spot for each address, and the addresses whose objects
-- are still to be scanned.
use Rattle.std.specs.Prelude.{◌≡◌, ◌≢◌, ◌⊎◌, ◌≤◌, ℕ, ◌+◌, ◌*◌, Bool, true, false, List, [], ◌∷◌, ◌++◌, length}
use Rattle.std.specs.Prelude.{Option, Some, None, count_by, Contains, get_or, slice_set, min, if◌then◌else◌}
use Rattle.std.specs.Option.{option_flatten}
use Rattle.refword.specs.declared.addr.TheConstants.Addr as addresses
use Rattle.verify.specs.declared.objects.Object.{Object}
use Rattle.verify.specs.declared.spots.Spot.{Spot}
use Rattle.verify.specs.declared.spots.Spot.TheVariants.{Empty, Unseen, Reached}
use Rattle.verify.specs.Images.{ImageData, ◌>>=◌, object_at, leads, field}
use Rattle.verify.specs.Soundness.{IsReached}

-- the address to which field k of the object at an address leads, if its value is good and not null
unfoldable pub target : ImageData → ℕ → ℕ → Option ℕ
target i a k = do
  value ← field i a k
  option_flatten (leads i value)

-- addresses of objects are below this one
abbrev pub space : ImageData → ℕ
space i = min addresses.LIMIT ((length i.pages + 1) * i.words)

-- a walk: its spots, and the waiting addresses
pub record WalkData : Type 0 where
  pub spots : List Spot
  pub waiting : List ℕ

-- the spot at an address; empty past the last
abbrev pub spot_at : List Spot → ℕ → Spot
spot_at spots a = get_or spots a Empty

-- the walk has met an address
abbrev pub IsMet : WalkData → ℕ → Type 0
IsMet w a = spot_at w.spots a ≡ Reached

-- an object starts there that the walk hasn't met
abbrev pub is_unseen : Spot → Bool
is_unseen Unseen = true
is_unseen _ = false

-- the spot at an address before a walk
abbrev pub first_spot : Option Object → Spot
first_spot None = Empty
first_spot (Some o) = Unseen

-- the walk meets an address, which waits to be scanned if it wasn't met before
unfoldable pub with_visit : WalkData → ℕ → WalkData
with_visit w a = record {
  spots = slice_set w.spots a Reached;
  waiting = if is_unseen (spot_at w.spots a) then w.waiting ++ a ∷ [] else w.waiting;
}

-- how many objects the walk may still scan, at most
abbrev pub looks_left : WalkData → ℕ
looks_left w = count_by is_unseen w.spots + length w.waiting

-- all met addresses are reached, all waiting ones are met, and the fields of all other met ones were scanned
pub record IsWalk (i : ImageData) (w : WalkData) : Type 0 where
  pub sized : length w.spots ≡ space i
  pub objects : (a : ℕ) (o : Object) → object_at i a ≡ Some o → spot_at w.spots a ≢ Empty
  pub reached : (a : ℕ) → IsMet w a → IsReached i a
  pub met : (a : ℕ) → Contains w.waiting a → IsMet w a
  pub closed : (a k c : ℕ) → IsMet w a → target i a k ≡ Some c → Contains w.waiting a ⊎ IsMet w c

-- the same, but of the object at address b only the fields before field n were scanned
pub record IsWalkAt (i : ImageData) (b n : ℕ) (w : WalkData) : Type 0 where
  pub sized : length w.spots ≡ space i
  pub objects : (a : ℕ) (o : Object) → object_at i a ≡ Some o → spot_at w.spots a ≢ Empty
  pub here : IsReached i b
  pub reached : (a : ℕ) → IsMet w a → IsReached i a
  pub met : (a : ℕ) → Contains w.waiting a → IsMet w a
  pub closed : (a k c : ℕ) → IsMet w a → target i a k ≡ Some c
      → (Contains w.waiting a ⊎ IsMet w c) ⊎ ((a ≡ b) × (n ≤ k))

-- an address that one walk has met was also met by a later one
abbrev pub Keeps : WalkData → WalkData → Type 0
Keeps v w = (a : ℕ) → IsMet v a → IsMet w a
