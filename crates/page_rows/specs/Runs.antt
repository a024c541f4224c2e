-- Runs: consecutive entries of a page's forwarding table, and what is noted when their objects are copied.
use Rattle.std.specs.Prelude.{◌≡◌, ℕ, zero, suc, ◌+◌, ◌/◌, ◌<◌, Bool, true, List, Option, Some, None, slice_get}
use Rattle.std.specs.Prelude.{if◌then◌else◌}
use Rattle.model.specs.declared.records.Forwarding.{Forwarding}
use Rattle.model.specs.Bits.{of_page, with_bit}
use Rattle.forward.specs.Noting.{noted_sides}

-- k entries of a forwarding table, from number e on, go to one target
abbrev pub GoTo : ℕ → ℕ → List Forwarding → ℕ → ℕ → Type 0
GoTo words target side e k =
    (i : ℕ) (f : Forwarding) → i < k → slice_get side (e + i) ≡ Some f → f.to / words ≡ target

-- notes of copied objects: where they start, and that they are copied
pub record Notes : Type 0 where
  pub starts : List (List Bool)
  pub sides : List (List Forwarding)

abbrev pub notes : List (List Bool) → List (List Forwarding) → Notes
notes starts sides = record { starts = starts; sides = sides }

-- the bits of starts after the object of an entry is copied, if there is one that was uncopied
abbrev pub noted_starts : ℕ → Option Forwarding → List (List Bool) → List (List Bool)
noted_starts words None starts = starts
noted_starts words (Some f) starts = if f.copied then starts else with_bit starts words f.to true

-- the same of k entries of a forwarding table, from number e on
abbrev pub started_from : ℕ → List Forwarding → ℕ → ℕ → List (List Bool) → List (List Bool)
started_from words side e zero starts = starts
started_from words side e (suc k) starts =
    started_from words side (e + 1) k (noted_starts words (slice_get side e) starts)

-- the notes after the object of an entry of page n is copied
abbrev pub noted_by : ℕ → ℕ → Option Forwarding → Notes → Notes
noted_by words n o z = notes (noted_starts words o z.starts) (noted_sides n o z.sides)

-- the same of k entries from number e on
abbrev pub noted_from : ℕ → ℕ → ℕ → ℕ → Notes → Notes
noted_from words n e zero z = z
noted_from words n e (suc k) z = noted_from words n (e + 1) k (noted_by words n (slice_get (of_page z.sides n) e) z)
