-- The record of a thread: its readers and its edits.
use Rattle.std.specs.Prelude.{ℕ, Bool, true, false, Option, Some, None, slice_get, slice_set}
use Rattle.model.specs.declared.records.Buffer.{Buffer}
use Rattle.model.specs.declared.records.Barrier.{Barrier}
use Rattle.model.specs.declared.records.Counter.{Counter}
use Rattle.model.specs.declared.records.Tally.{Tally}
use Rattle.model.specs.States.{Reference, ThreadState, flat}
use Rattle.model.specs.Tallies.{counted}

-- a thread that may be missing has crossed the open checkpoint
abbrev pub has_crossed : Option ThreadState → Bool
has_crossed None = true
has_crossed (Some t) = t.crossed

-- a thread that may be missing is parked
abbrev pub is_parked_in : Option ThreadState → Bool
is_parked_in None = false
is_parked_in (Some t) = t.parked

-- the reference in register r of a thread that may be missing
abbrev pub register_in : Option ThreadState → ℕ → Reference
register_in None r = None
register_in (Some t) r = flat (slice_get t.registers r)

-- a thread with another reference in register r
abbrev pub set_register_of : ℕ → Reference → ThreadState → ThreadState
set_register_of r w t = record t { registers = slice_set t.registers r w }

-- a thread with another buffer, or none
abbrev pub set_buffer_of : Option Buffer → ThreadState → ThreadState
set_buffer_of b t = record t { buffer = b }

-- the buffer of a thread that may be missing
abbrev pub buffer_in : Option ThreadState → Option Buffer
buffer_in None = None
buffer_in (Some t) = t.buffer

-- a thread whose barrier was opened or changed, which is counted
abbrev pub set_barrier_of : Barrier → Counter → ThreadState → ThreadState
set_barrier_of b c t = record t { barrier = Some b; tally = counted c t.tally }

-- the barrier counters of a thread that may be missing
abbrev pub tally_in : Option ThreadState → Option Tally
tally_in None = None
tally_in (Some t) = Some t.tally

-- the barrier of a thread that may be missing
abbrev pub barrier_of : Option ThreadState → Option Barrier
barrier_of None = None
barrier_of (Some t) = t.barrier

-- a thread whose barrier is closed, and whose register r has the reference that was loaded
abbrev pub set_loaded_of : ℕ → Reference → ThreadState → ThreadState
set_loaded_of r w t = record t { registers = slice_set t.registers r w; barrier = None }

-- a thread that is parked or runs
abbrev pub set_parked_of : Bool → ThreadState → ThreadState
set_parked_of b t = record t { parked = b }

-- a thread that has crossed, or hasn't
abbrev pub set_crossed_of : Bool → ThreadState → ThreadState
set_crossed_of b t = record t { crossed = b }
