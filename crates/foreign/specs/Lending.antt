-- Borrows of the heap that a handle owns.
use Rattle.std.specs.Prelude.{◌≡◌, Option, Some, None}
use Rattle.core.specs.Option.{IfNone}
use Rattle.std.specs.Borrow.{Lends, LendsSo, MutBor, Fml}
use Rattle.foreign.specs.declared.handle.Handle.{Handle}
use Rattle.foreign.specs.declared.held.Held.{Held}
use Rattle.foreign.specs.declared.slot.Slot.{Slot}
use Rattle.foreign.specs.contracts.handle.Handle as handle
use Rattle.foreign.specs.contracts.held.Held as held
use Rattle.foreign.specs.contracts.slot.Slot as slot

-- the slot with other contents at its target
abbrev pub led : Slot → Held → Slot
led s h = record s { held = Some h }

-- the slot ends with what was written to its target
abbrev pub LendsHeld : MutBor Slot → MutBor Held → Fml
LendsHeld s r = Lends slot.the_row held.the_row s r (led s.now)

-- the contents that are borrowed, if any
abbrev pub lent_in : Option (MutBor Held) → Option Held
lent_in None = None
lent_in (Some r) = Some r.now

-- another heap in place of the one that is owned, if one is
abbrev pub replaced : Option Held → Held → Option Held
replaced None h = None
replaced (Some x) h = Some h

-- the handle ends with what was written to the borrowed heap; if none was borrowed, as it was
abbrev pub LendsIfHeld : MutBor Handle → Option (MutBor Held) → Fml
LendsIfHeld s r = LendsSo handle.the_row held.the_row s r (λ n h. n.slot.held ≡ replaced s.now.slot.held h)
    (λ n. IfNone r (n ≡ s.now))
