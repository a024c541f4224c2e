-- The part of a history that is one actor's.
use Rattle.std.specs.Prelude.{Bool, true, false, List, filter, nat_eq, nat_lt}
use Rattle.model.specs.declared.steps.Actor.{Actor}
use Rattle.model.specs.declared.steps.Actor.TheVariants.{Thread, Worker}
use Rattle.entries.specs.declared.entry.Entry.{Entry}

-- two actors are the same
unfoldable pub is_same : Actor → Actor → Bool
is_same (Thread m) (Thread n) = nat_eq m n
is_same (Worker m) (Worker n) = nat_eq m n
is_same _ _ = false

-- an actor comes before another one: threads come before workers
unfoldable pub is_before : Actor → Actor → Bool
is_before (Thread m) (Thread n) = nat_lt m n
is_before (Worker m) (Worker n) = nat_lt m n
is_before (Thread m) (Worker n) = true
is_before (Worker m) (Thread n) = false

-- the entries of an actor in a history, in order
abbrev pub part_of : Actor → List Entry → List Entry
part_of a es = filter (λ (e : Entry). is_same e.actor a) es
