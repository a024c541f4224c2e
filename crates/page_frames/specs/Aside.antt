-- A list of frames, of which one may be set aside.
use Rattle.std.specs.Prelude.{ℕ, List, slice_get, unwrap_or}

-- the element at the place of the frame that is set aside; the frame itself if it has no place
abbrev pub left_in : List (List ℕ) → ℕ → List ℕ → List ℕ
left_in frames i held = unwrap_or (slice_get frames i) held
