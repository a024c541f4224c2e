-- How many frames a heap may use until it is collected.
use Rattle.std.specs.Prelude.{ℕ, Bool, ◌+◌, ◌-◌, ◌*◌, ◌/◌, ◌==◌, ◌||◌, nat_lt, count_by, is_none, if◌then◌else◌}
use Rattle.model.specs.States.{HeapState}

-- the larger of two numbers
abbrev pub larger : ℕ → ℕ → ℕ
larger a b = if nat_lt a b then b else a

-- at least one
abbrev pub some_of : ℕ → ℕ
some_of n = if n == 0 then 1 else n

-- a number of at most 32 bits, and at least `least`
abbrev pub capped : ℕ → ℕ → ℕ
capped least n = if nat_lt 4294967295 n then 4294967295 else larger least n

-- the frames that are used after a collection, `growth` percent more, and no fewer than `least`
abbrev pub grown : ℕ → ℕ → ℕ → ℕ
grown least growth used = capped least (used + some_of (used * growth / 100))

-- a collection has come since `before` frames were used: fewer are, or more than may be
abbrev pub is_behind : ℕ → ℕ → ℕ → Bool
is_behind before most used = nat_lt used before || nat_lt most used

-- how many frames may be used, if `used` are now
abbrev pub followed : ℕ → ℕ → ℕ → ℕ → ℕ → ℕ
followed least growth before most used = if is_behind before most used then grown least growth used else most

-- how many frames a heap uses
abbrev pub in_use : HeapState → ℕ
in_use h = h.config.frames - count_by is_none h.store.owners
