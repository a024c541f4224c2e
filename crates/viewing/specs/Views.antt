-- Handles as contracts see them.
use Rattle.viewing.specs.Viewing.{HandleState, IsHandle}
use Rattle.viewing.specs.declared.handle.Handle.TheInside.{Inside}

abbrev pub handle_of : Inside → HandleState
handle_of s = record { heap = s.heap.now; address = s.address }

-- it refers to a reachable object
abbrev pub IsHandleInside : Inside → Type 0
IsHandleInside s = IsHandle (handle_of s)
