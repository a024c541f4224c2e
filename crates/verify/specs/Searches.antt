-- The results of the searches for a fault: the passes over roots, and the test of the fields of reached objects.
use Rattle.std.specs.Prelude.{◌≡◌, ◌≢◌, ◌<◌, ℕ, List, length, Option, Some, None, IfSome, Result, Ok, Err}
use Rattle.verify.specs.declared.verdict.Root.{Root}
use Rattle.verify.specs.declared.verdict.Fault.{Fault}
use Rattle.verify.specs.declared.verdict.Fault.TheVariants as faults
use Rattle.verify.specs.declared.objects.Object.{Object}
use Rattle.verify.specs.Images.{ImageData, object_at, leads, field}
use Rattle.verify.specs.Faults.{HasFault, Rank, rank, IsBefore, first_field, first_twins}
use Rattle.verify.specs.Soundness.{IsReached, IsGood, root_value}
use Rattle.verify.specs.Walks.{WalkData, IsMet, spot_at, space}
use Rattle.verify.specs.declared.spots.Spot.{Spot}
use Rattle.verify.specs.declared.spots.Spot.TheVariants.{Empty, Reached}

-- a root's value is good, if there is such a root, and the walk has met the address to which it leads
abbrev pub IsPassed : ImageData → WalkData → Root → Type 0
IsPassed i w r = (value : ℕ) → root_value i r ≡ Some value
    → (found : Option ℕ) × (leads i value ≡ Some found) × IfSome found (IsMet w)

-- all roots before a rank are passed
abbrev pub PassedBefore : ImageData → WalkData → Rank → Type 0
PassedBefore i w x = (r : Root) → IsBefore (rank (faults.Root r)) x → IsPassed i w r

-- the result of a pass over roots: no fault, and all roots before a rank are passed; or a root with a fault, and all
-- before it are passed
abbrev pub FoundRoot : ImageData → WalkData → Rank → Option Root → Type 0
FoundRoot i w x None = PassedBefore i w x
FoundRoot i w x (Some r) = HasFault i (faults.Root r) × PassedBefore i w (rank (faults.Root r))

-- the spot of each address has whether it is reached, and whether an object may start there
pub record TellsReached (i : ImageData) (spots : List Spot) : Type 0 where
  pub sized : length spots ≡ space i
  pub reached : (a : ℕ) → spot_at spots a ≡ Reached → IsReached i a
  pub all : (a : ℕ) → IsReached i a → spot_at spots a ≡ Reached
  pub objects : (a : ℕ) (o : Object) → object_at i a ≡ Some o → spot_at spots a ≢ Empty

-- the roots before a rank are good
abbrev pub GoodRootsBefore : ImageData → Rank → Type 0
GoodRootsBefore i x = (r : Root) (value : ℕ) → IsBefore (rank (faults.Root r)) x → root_value i r ≡ Some value
    → IsGood i value

-- the result of a walk from all roots: which addresses are reached, if all roots are good; or the first root that
-- isn't
abbrev pub FoundReached : ImageData → Result (List Spot) Root → Type 0
FoundReached i (Ok spots) = TellsReached i spots × GoodRootsBefore i first_field
FoundReached i (Err r) = HasFault i (faults.Root r) × GoodRootsBefore i (rank (faults.Root r))

-- of the object at an address, the fields before field n are good
abbrev pub GoodFieldsBefore : ImageData → ℕ → ℕ → Type 0
GoodFieldsBefore i a n = (k value : ℕ) → k < n → field i a k ≡ Some value → IsGood i value

-- the result of a test of the fields of one object: all are good; or one that isn't, and those before it are
abbrev pub FoundBad : ImageData → ℕ → Option ℕ → Type 0
FoundBad i a None = (k value : ℕ) → field i a k ≡ Some value → IsGood i value
FoundBad i a (Some n) = (value : ℕ) × (field i a n ≡ Some value) × (IsGood i value → ⊥) × GoodFieldsBefore i a n

-- the same for an object that may not be reached, whose fields aren't tested then
abbrev pub FoundBadOf : ImageData → ℕ → Option ℕ → Type 0
FoundBadOf i a None = IsReached i a → FoundBad i a None
FoundBadOf i a (Some n) = IsReached i a × FoundBad i a (Some n)

-- the fields of reached objects before a rank are good
abbrev pub GoodBefore : ImageData → Rank → Type 0
GoodBefore i x = (a k value : ℕ) → IsBefore (rank (faults.Field a k)) x → IsReached i a → field i a k ≡ Some value
    → IsGood i value

-- the result of a test of all fields of reached objects: all are good; or a fault, and the fields before it are good
abbrev pub FoundField : ImageData → Option Fault → Type 0
FoundField i None = GoodBefore i first_twins
FoundField i (Some f) = HasFault i f × (a : ℕ) × (k : ℕ) × (f ≡ faults.Field a k) × GoodBefore i (rank f)
