-- Properties of the collector's phases.
use Rattle.std.specs.Prelude.{Bool, true, false, not}
use Rattle.model.specs.declared.records.Phase.{Phase}
use Rattle.model.specs.declared.records.Phase.TheVariants.{Idle, MarkCrossing, Scanning, ProtectCrossing, Relocating}

-- a mark runs
abbrev pub is_marking : Phase → Bool
is_marking MarkCrossing = true
is_marking Scanning = true
is_marking _ = false

-- a mark's checkpoint is open
abbrev pub is_mark_crossing : Phase → Bool
is_mark_crossing MarkCrossing = true
is_mark_crossing _ = false

-- a checkpoint is open: some thread hasn't crossed it
abbrev pub is_crossing : Phase → Bool
is_crossing MarkCrossing = true
is_crossing ProtectCrossing = true
is_crossing _ = false

-- a mark runs that the thread has crossed, so its loads trap on references that aren't clean
abbrev pub may_nmt_trap : Phase → Bool → Bool
may_nmt_trap Scanning crossed = true
may_nmt_trap MarkCrossing crossed = crossed
may_nmt_trap _ crossed = false

-- two bits are equal
abbrev pub same_bit : Bool → Bool → Bool
same_bit true b = b
same_bit false b = not b

-- a mark may start
abbrev pub may_start_mark : Phase → Bool
may_start_mark Idle = true
may_start_mark Relocating = true
may_start_mark _ = false

-- no mark runs, and no page is protected
abbrev pub is_idle : Phase → Bool
is_idle Idle = true
is_idle _ = false

-- pages are protected, and some thread hasn't crossed
abbrev pub is_protect_crossing : Phase → Bool
is_protect_crossing ProtectCrossing = true
is_protect_crossing _ = false
