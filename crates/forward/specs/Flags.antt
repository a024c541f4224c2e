-- Flags, of which the first ones are mostly set.
use Rattle.std.specs.Prelude.{◌≡◌, ℕ, zero, suc, ◌+◌, ◌<◌, ◌≤◌, ◌^◌, Bool, true, false, List, ◌++◌, length, replicate, drop}
use Rattle.std.specs.Prelude.{get_or}
use Rattle.model.specs.Bits.{put_bit}

-- the first d flags are set, and the others are the bits of a row
unfoldable pub flags_of : ℕ → List Bool → List Bool
flags_of d row = replicate d true ++ drop d row

-- there are as many flags, and their bits are clear
pub record AreFlags (d : ℕ) (row : List Bool) : Type 0 where
  pub within : d ≤ length row
  pub clear : (i : ℕ) → i < d → get_or row i false ≡ false
  pub short : length row < 2 ^ 32

-- the flags after k of them were set, from number i on
abbrev pub put_run : ℕ → ℕ → List Bool → List Bool
put_run i zero flags = flags
put_run i (suc k) flags = put_run (i + 1) k (put_bit i true flags)
