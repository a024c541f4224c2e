-- Loads: the read barrier, from a load's start to its end.
use Rattle.std.specs.Prelude.{ℕ, ◌==◌, Bool, true, false, Option, Some, None, slice_get, if◌then◌else◌, ◌||◌, not}
use Rattle.std.specs.Prelude.{Result, Ok, Err}
use Rattle.refword.specs.Words.{bits_of}
use Rattle.model.specs.declared.records.Barrier.{Barrier}
use Rattle.model.specs.declared.records.Counter.{Counter}
use Rattle.model.specs.declared.records.Counter.TheVariants as counters
use Rattle.model.specs.declared.records.Place.{Place}
use Rattle.model.specs.declared.records.Tally.{Tally}
use Rattle.model.specs.declared.records.Place.TheVariants as places
use Rattle.model.specs.Stores.{word_at}
use Rattle.model.specs.declared.steps.Answer.{Answer}
use Rattle.model.specs.declared.steps.Answer.TheVariants as answers
use Rattle.model.specs.declared.steps.Refusal.{Refusal}
use Rattle.model.specs.declared.steps.Refusal.TheVariants as refusals
use Rattle.model.specs.Phases.{may_nmt_trap, same_bit}
use Rattle.model.specs.Refusing.{◌>>=◌, or_refuse, Outcome}
use Rattle.model.specs.States.{Reference, HeapState, change_at}
use Rattle.model.specs.Threads.{set_barrier_of, barrier_of, tally_in, set_loaded_of, has_crossed}
use Rattle.model.specs.Registers.{let_through, usable}
use Rattle.model.specs.Marks.{with_mark, marked_word}
use Rattle.model.specs.Moves.{copied_for}
use Rattle.model.specs.References.{global_of, read_reference, field_address, with_place, field_at}

-- the heap after a thread's barrier was opened or changed, which increments a barrier counter
unfoldable pub with_barrier : HeapState → ℕ → Barrier → Counter → HeapState
with_barrier h t b c = record h { threads = change_at h.threads t (set_barrier_of b c) }

-- the barrier of a thread
abbrev pub barrier_of_thread : HeapState → ℕ → Option Barrier
barrier_of_thread h t = barrier_of (slice_get h.threads t)

-- the barrier counters of a thread, if the thread exists
abbrev pub tally_of_thread : HeapState → ℕ → Option Tally
tally_of_thread h t = tally_in (slice_get h.threads t)

-- the heap after a thread's load for register r has ended
unfoldable pub with_loaded : HeapState → ℕ → ℕ → Reference → HeapState
with_loaded h t r w = record h { threads = change_at h.threads t (set_loaded_of r w) }

-- the barrier of a load for a register, which has just read a reference at a place
abbrev pub new_barrier : ℕ → Place → Reference → Barrier
new_barrier target place w = record { target = target; place = place; raw = w; now = w; healed = false }

-- the outcome of Load
unfoldable pub load_outcome : HeapState → ℕ → ℕ → ℕ → ℕ → Outcome
load_outcome h t target object i = do
  address ← usable h t object
  place ← or_refuse (field_at h address i) refusals.BadIndex
  bits ← or_refuse (word_at h.store place) refusals.BadIndex
  Ok (
    with_barrier h t (new_barrier target (places.Field address i) (read_reference bits)) counters.Loads,
    answers.Loaded,
  )

-- the outcome of LoadGlobal
unfoldable pub load_global_outcome : HeapState → ℕ → ℕ → ℕ → Outcome
load_global_outcome h t target global =
    Ok (
      with_barrier h t (new_barrier target (places.Global global) (global_of h global)) counters.Loads,
      answers.Loaded,
    )

-- a result is an error
abbrev pub is_refused : Result Unit Refusal → Bool
is_refused (Ok u) = false
is_refused (Err e) = true

-- a GC trap is due: the reference leads to a page that the thread may not use
abbrev pub gc_trap_due : HeapState → ℕ → Reference → Bool
gc_trap_due h t None = false
gc_trap_due h t (Some w) = is_refused (let_through h t w.0)

-- an NMT trap is due: the running mark hasn't seen the reference
abbrev pub nmt_trap_due : HeapState → ℕ → Reference → Bool
nmt_trap_due h t None = false
nmt_trap_due h t (Some w) =
    if may_nmt_trap h.phase (has_crossed (slice_get h.threads t)) then not (same_bit w.1 h.nmt) else false

-- a trap is due for a reference
unfoldable pub trap_due : HeapState → ℕ → Reference → Bool
trap_due h t w = gc_trap_due h t w || nmt_trap_due h t w

-- a barrier with another reference
abbrev pub set_now_of : Reference → Barrier → Barrier
set_now_of w b = record b { now = w }

-- an NMT trap: the reference is marked if that is due; its object is copied first if it isn't copied
abbrev pub nmt_trap : HeapState → ℕ → Barrier → Outcome
nmt_trap h t b =
    if nmt_trap_due h t b.now
    then Ok (
      with_barrier (with_mark (copied_for h b.now) b.now) t (set_now_of (marked_word (copied_for h b.now) b.now) b)
          counters.Nmt,
      answers.Marked,
    )
    else Ok (h, answers.Clear)

-- the bits at the place of a load
abbrev pub bits_at : HeapState → Place → Option ℕ
bits_at h (places.Field address i) = word_at h.store (field_address address i)
bits_at h (places.Global g) = Some (bits_of (global_of h g))

-- bits, if there are any, are those of a reference
abbrev pub are_bits_of : Option ℕ → Reference → Bool
are_bits_of None w = false
are_bits_of (Some bits) w = bits == bits_of w

-- a barrier whose place is healed
abbrev pub set_healed : Barrier → Barrier
set_healed b = record b { healed = true }

-- a place is healed if it still has what was loaded
unfoldable pub heal_place : HeapState → ℕ → Barrier → HeapState × Answer
heal_place h t b =
    if are_bits_of (bits_at h b.place) b.raw
    then (with_barrier (with_place h b.place b.now) t (set_healed b) counters.Healed, answers.Healed)
    else (with_barrier h t (set_healed b) counters.Changed, answers.Changed)

-- the outcome of Heal
unfoldable pub heal_outcome : HeapState → ℕ → Outcome
heal_outcome h t = do
  b ← or_refuse (barrier_of_thread h t) refusals.NotBusy
  if trap_due h t b.now then Err refusals.Busy else Ok (heal_place h t b)

-- a load may end: its reference is the one that was loaded, or its place is healed
abbrev pub may_finish : Barrier → Bool
may_finish b = b.healed || (bits_of b.now == bits_of b.raw)

-- a load ends for whose reference no trap is due
unfoldable pub end_load : HeapState → ℕ → Barrier → Outcome
end_load h t b = if may_finish b then Ok (with_loaded h t b.target b.now, answers.Done) else Err refusals.Busy

-- the outcome of Finish
unfoldable pub finish_outcome : HeapState → ℕ → Outcome
finish_outcome h t = do
  b ← or_refuse (barrier_of_thread h t) refusals.NotBusy
  if trap_due h t b.now then Err refusals.Busy else end_load h t b
