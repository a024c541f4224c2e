-- Correcting references to protected pages: by the traps of a load, and in registers.
use Rattle.std.specs.Prelude.{ℕ, not, Bool, Some, None, if◌then◌else◌, Ok, Err}
use Rattle.model.specs.declared.records.Barrier.{Barrier}
use Rattle.model.specs.declared.records.Counter.TheVariants as counters
use Rattle.model.specs.declared.steps.Answer.TheVariants as answers
use Rattle.model.specs.declared.steps.Refusal.TheVariants as refusals
use Rattle.model.specs.Phases.{is_protect_crossing}
use Rattle.model.specs.Refusing.{◌>>=◌, or_refuse, Outcome}
use Rattle.model.specs.States.{Reference, HeapState}
use Rattle.model.specs.Registers.{register_of, with_register, let_through}
use Rattle.model.specs.Loads.{with_barrier, barrier_of_thread, set_now_of, is_refused, gc_trap_due, nmt_trap}
use Rattle.model.specs.Moves.{copied_first, moved_word}

-- a GC trap: the reference is replaced with one to the copy, which is made first if it isn't there
abbrev pub gc_trap : HeapState → ℕ → Barrier → Reference → Outcome
gc_trap h t b None = Ok (h, answers.Clear)
gc_trap h t b (Some w) =
    if is_protect_crossing h.phase then Err refusals.Stall
    else Ok (with_barrier (copied_first h w.0) t (set_now_of (Some (moved_word h w)) b) counters.Gc, answers.Moved)

-- the outcome of Trap
unfoldable pub trap_outcome : HeapState → ℕ → Outcome
trap_outcome h t = do
  b ← or_refuse (barrier_of_thread h t) refusals.NotBusy
  if gc_trap_due h t b.now then gc_trap h t b b.now else nmt_trap h t b

-- the reference in a register is corrected unless the thread may use it as it is
abbrev pub scrub_word : HeapState → ℕ → ℕ → ℕ × Bool → Outcome
scrub_word h t r w =
    if not (is_refused (let_through h t w.0)) then Ok (h, answers.Clean) else
    (if is_protect_crossing h.phase then Err refusals.Stall
    else Ok (with_register (copied_first h w.0) t r (Some (moved_word h w)), answers.Moved))

-- the outcome of Scrub
unfoldable pub scrub_outcome : HeapState → ℕ → ℕ → Outcome
scrub_outcome h t r = do
  w ← or_refuse (register_of h t r) refusals.Null
  scrub_word h t r w
