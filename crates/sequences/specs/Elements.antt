-- A property of each element of a list, and a list with an element changed.
use Rattle.std.specs.Prelude.{◌≡◌, ℕ, List, Option, Some, None, slice_get, slice_set}

-- each element has the property
abbrev pub Each : {X : Type 0} → List X → (X → Type 0) → Type 0
Each {X} xs P = (i : ℕ) (x : X) → slice_get xs i ≡ Some x → P x

-- a list with the element of index i changed, which may be missing
abbrev pub change_found : {X : Type 0} → List X → ℕ → Option X → (X → X) → List X
change_found xs i None change = xs
change_found xs i (Some x) change = slice_set xs i (change x)

-- a list with the element of an index changed, if it is there
abbrev pub change_at : {X : Type 0} → List X → ℕ → (X → X) → List X
change_at xs i change = change_found xs i (slice_get xs i) change
