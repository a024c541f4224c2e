-- Which faults an image has, and which is the first.
use Rattle.std.specs.Prelude.{◌≡◌, ◌⊎◌, ◌<◌, ℕ, Some}
use Rattle.verify.specs.Images.{ImageData, field}
use Rattle.verify.specs.Soundness.{IsGood, HasFrames, root_value, IsReached, AreTwins, IsSound}
use Rattle.verify.specs.declared.verdict.Root.TheVariants as roots
use Rattle.verify.specs.declared.verdict.Fault.{Fault}
use Rattle.verify.specs.declared.verdict.Fault.TheVariants as faults
use Rattle.verify.specs.declared.verdict.Verdict.{Verdict}
use Rattle.verify.specs.declared.verdict.Verdict.TheVariants as verdicts

-- an image has a fault
abbrev pub HasFault : ImageData → Fault → Type 0
HasFault i faults.Frames = HasFrames i → ⊥
HasFault i (faults.Root r) = (value : ℕ) × (root_value i r ≡ Some value) × (IsGood i value → ⊥)
HasFault i (faults.Field a k) = (value : ℕ) × IsReached i a × (field i a k ≡ Some value) × (IsGood i value → ⊥)
HasFault i (faults.Twins b) = (a : ℕ) × (c : ℕ) × AreTwins i b a c

-- the rank of a fault in the order of faults: its kind, and two numbers
pub record Rank : Type 0 where
  pub kind : ℕ
  pub major : ℕ
  pub minor : ℕ

-- the rank of these numbers
abbrev pub at : ℕ → ℕ → ℕ → Rank
at k m n = record { kind = k; major = m; minor = n }

-- frames first; then registers by thread and number, loads by thread, and globals by number; then fields by the
-- object's address and the field's number; then twins by their birth
abbrev pub rank : Fault → Rank
rank faults.Frames = at 0 0 0
rank (faults.Root (roots.Register t r)) = at 1 t r
rank (faults.Root (roots.Pending t)) = at 2 t 0
rank (faults.Root (roots.Global g)) = at 3 g 0
rank (faults.Field a k) = at 4 a k
rank (faults.Twins b) = at 5 b 0

-- the rank at which loads begin, after registers
abbrev pub first_load : Rank
first_load = at 2 0 0

-- the rank at which globals begin
abbrev pub first_global : Rank
first_global = at 3 0 0

-- the rank at which fields begin, after all roots
abbrev pub first_field : Rank
first_field = at 4 0 0

-- the rank at which twins begin
abbrev pub first_twins : Rank
first_twins = at 5 0 0

-- one rank is before another
abbrev pub IsBefore : Rank → Rank → Type 0
IsBefore x y =
    (x.kind < y.kind)
    ⊎ ((x.kind ≡ y.kind) × (x.major < y.major))
    ⊎ ((x.kind ≡ y.kind) × (x.major ≡ y.major) × (x.minor < y.minor))

-- no fault of an image is before a rank
abbrev pub NoneBefore : ImageData → Rank → Type 0
NoneBefore i x = (f : Fault) → IsBefore (rank f) x → HasFault i f → ⊥

-- the verdict on an image: it is sound, or it has this fault, and none before it
abbrev pub VerdictIs : ImageData → Verdict → Type 0
VerdictIs i verdicts.Sound = IsSound i
VerdictIs i (verdicts.Faulty f) = HasFault i f × NoneBefore i (rank f)

-- there is one verdict on an image
abbrev pub OneVerdict : Type 0
OneVerdict = (i : ImageData) (v u : Verdict) → VerdictIs i v → VerdictIs i u → v ≡ u
