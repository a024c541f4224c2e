-- Lists of pages that rise.
use Rattle.std.specs.Prelude.{ℕ, ◌&&◌, Bool, true, List, [], ◌∷◌, nat_lt}

-- each number is greater than the previous one, and the first than this
abbrev pub rises_above : ℕ → List ℕ → Bool
rises_above n [] = true
rises_above n (m ∷ ms) = nat_lt n m && rises_above m ms
