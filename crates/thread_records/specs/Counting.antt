-- How many threads haven't crossed the open checkpoint.
use Rattle.std.specs.Prelude.{ℕ, Bool, not, cond, List, count_by}
use Rattle.model.specs.States.{ThreadState}

-- a thread hasn't crossed the open checkpoint
abbrev pub is_behind : ThreadState → Bool
is_behind t = not t.crossed

-- 1 for a thread that hasn't crossed, else 0
abbrev pub counted_behind : ThreadState → ℕ
counted_behind t = cond (is_behind t) 1 0

-- the number of threads that haven't crossed
abbrev pub behind_count : List ThreadState → ℕ
behind_count threads = count_by is_behind threads
