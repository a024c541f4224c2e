-- Entries by their numbers.
use Rattle.std.specs.Prelude.{ℕ, List, Option, Some, None, slice_get}
use Rattle.model.specs.declared.records.Forwarding.{Forwarding}

-- the entry of a number, if one was found
abbrev pub found_at : List Forwarding → Option ℕ → Option Forwarding
found_at side None = None
found_at side (Some i) = slice_get side i
