-- A list compared with a history, entry by entry.
use Rattle.std.specs.Prelude.{◌≡◌, ◌≢◌, ◌≤◌, ◌+◌, ◌⊎◌, ℕ, true, false, List, length, take, Option, Some, None}
use Rattle.std.specs.Prelude.{slice_get}
use Rattle.model.specs.declared.steps.Actor.{Actor}
use Rattle.entries.specs.declared.entry.Entry.{Entry}
use Rattle.entries.specs.Parts.{is_same, part_of}

-- a list begins with the actor's entries among the first i of a history, and these are n
abbrev pub HasPartTo : List Entry → ℕ → Actor → List Entry → ℕ → Type 0
HasPartTo list n a es i = (part_of a (take i es) ≡ take n list) × (n ≤ length list)

-- the place in a list after an entry of the history: the next place if the entry is the actor's and the list has it,
-- none if the list has another there; the same place if it is another actor's
abbrev pub Passes : List Entry → ℕ → Actor → Entry → Option ℕ → Type 0
Passes list n a e None = (is_same e.actor a ≡ true) × (slice_get list n ≢ Some e)
Passes list n a e (Some m) = ((is_same e.actor a ≡ false) × (m ≡ n))
    ⊎ ((is_same e.actor a ≡ true) × (slice_get list n ≡ Some e) × (m ≡ n + 1))
