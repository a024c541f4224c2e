-- The contents of a handle.
use Rattle.std.specs.Prelude.{Bool, true, false, Option, Some, None}
use mir.Syntax.{Ty}
use base.Fml.{Fml, ftrue}
use denote.RawPtr.{Ptr}
use Rattle.std_alloc.specs.Box.Ownership.{box_owns}
use Rattle.std_alloc.specs.declared.boxed.Box.{Box}
use Rattle.std_heap.specs.contracts.GlobalAllocator.TheImpl.{ghosts}
use Rattle.foreign.specs.declared.held.Held.{Held}
use Rattle.foreign.specs.contracts.held.Held.{the_row}

-- the right to free a block, which is the same of any handle of the allocator
abbrev pub token : Ty → Ptr → Fml
token = ghosts.dealloc_token (record { memory = record { seal = tt } })

-- a pointer that leads to a heap owns it, and the right to free its block
abbrev pub slot_owns : Ptr → Option Held → Fml
slot_owns p None = ftrue
slot_owns p (Some h) = box_owns token the_row p h

-- whether there is a heap
abbrev pub is_held : Option Held → Bool
is_held None = false
is_held (Some h) = true

-- the contents of the box, if there is one
abbrev pub held_in : {Z : Type 0} → Option (Box Held Z) → Option Held
held_in None = None
held_in (Some b) = Some b.value
