-- Grey objects that a worker may pick next.
use Rattle.std.specs.Prelude.{◌≡◌, ℕ, ◌+◌, ◌*◌, ◌<◌, ◌&&◌, not, Bool, true, false, List, length, Option, Some, None}
use Rattle.std.specs.Prelude.{slice_index_or}
use Rattle.model.specs.States.{HeapState}
use Rattle.model.specs.Scans.{is_taken}

-- the bitmap of a page has a grey object at an offset, and no worker has it
unfoldable pub is_free_on : HeapState → List Bool → ℕ → ℕ → Bool
is_free_on h row page offset = slice_index_or row offset false && not (is_taken h (page * h.store.words + offset))

-- k is the first such offset
pub record IsFirstFree (h : HeapState) (row : List Bool) (page k : ℕ) : Type 0 where
  pub within : k < length row
  pub here : is_free_on h row page k ≡ true
  pub before : (j : ℕ) → j < k → is_free_on h row page j ≡ false

-- the first such offset, if there is one
abbrev pub IsNextFree : HeapState → List Bool → ℕ → Option ℕ → Type 0
IsNextFree h row page None = (j : ℕ) → is_free_on h row page j ≡ false
IsNextFree h row page (Some k) = IsFirstFree h row page k
