-- Checkpoints: crossings, registers that are corrected, and parked threads.
use Rattle.std.specs.Prelude.{ℕ, zero, suc, Bool, true, false, not, List, Option, Some, None, is_none, slice_get}
use Rattle.std.specs.Prelude.{position, if◌then◌else◌, Result, Ok, Err}
use Rattle.model.specs.declared.records.Phase.{Phase}
use Rattle.model.specs.declared.records.Phase.TheVariants.{MarkCrossing, Scanning, ProtectCrossing, Relocating}
use Rattle.model.specs.declared.steps.Answer.TheVariants as answers
use Rattle.model.specs.declared.steps.Refusal.{Refusal}
use Rattle.model.specs.declared.steps.Refusal.TheVariants as refusals
use Rattle.model.specs.Phases.{is_crossing, is_mark_crossing}
use Rattle.model.specs.Refusing.{◌>>=◌, Outcome}
use Rattle.model.specs.States.{ThreadState, Reference, HeapState, change_at}
use Rattle.model.specs.Threads.{set_parked_of, set_crossed_of, is_parked_in, has_crossed}
use Rattle.model.specs.Registers.{register_of, with_register}
use Rattle.model.specs.Marks.{with_mark, marked_word}
use Rattle.model.specs.Moves.{copied_for}

-- the heap with a thread parked or running
unfoldable pub with_parked : HeapState → ℕ → Bool → HeapState
with_parked h t b = record h { threads = change_at h.threads t (set_parked_of b) }

-- the lowest-numbered thread that hasn't crossed
unfoldable pub first_behind : List ThreadState → Option ℕ
first_behind threads = position (λ (t : ThreadState). not t.crossed) threads

-- Ok if there is no such thread, else an error with its number
abbrev pub none_behind : Option ℕ → Result Unit Refusal
none_behind None = Ok tt
none_behind (Some t) = Err (refusals.NotCrossed t)

-- Ok if all threads have crossed, else an error with the lowest-numbered one that hasn't
unfoldable pub all_crossed : HeapState → Result Unit Refusal
all_crossed h = none_behind (first_behind h.threads)

-- the phase after a checkpoint
abbrev pub phase_behind : Phase → Phase
phase_behind MarkCrossing = Scanning
phase_behind ProtectCrossing = Relocating
phase_behind other = other

-- the heap after a thread has crossed; if it is the last, the next phase begins
unfoldable pub with_crossed : HeapState → ℕ → HeapState
with_crossed h t = record h {
  threads = change_at h.threads t (set_crossed_of true);
  phase = if is_none (first_behind (change_at h.threads t (set_crossed_of true)))
      then phase_behind h.phase else h.phase;
}

-- the heap after a reference was marked, and written corrected to a register
unfoldable pub with_marked_word : HeapState → ℕ → ℕ → Reference → HeapState
with_marked_word h t r v = with_register (with_mark h v) t r (marked_word h v)

-- the heap after the reference in a register was marked; its object is copied first if it isn't copied
unfoldable pub with_marked_register : HeapState → ℕ → ℕ → HeapState
with_marked_register h t r = with_marked_word (copied_for h (register_of h t r)) t r (register_of h t r)

-- the same for each register below n
abbrev pub with_marked_registers : HeapState → ℕ → ℕ → HeapState
with_marked_registers h t zero = h
with_marked_registers h t (suc r) = with_marked_register (with_marked_registers h t r) t r

-- how many registers of a thread a crossing marks: at a mark's checkpoint all, at that of protected pages none
abbrev pub marked_at_crossing : HeapState → ℕ
marked_at_crossing h = if is_mark_crossing h.phase then h.config.registers else 0

-- the heap after a thread crossed the open checkpoint
unfoldable pub cross_thread : HeapState → ℕ → HeapState
cross_thread h t = with_crossed (with_marked_registers h t (marked_at_crossing h)) t

-- Ok if a checkpoint is open that a thread hasn't crossed
unfoldable pub may_cross : HeapState → ℕ → Result Unit Refusal
may_cross h t =
    if not (is_crossing h.phase) then Err refusals.Phase else
    (if has_crossed (slice_get h.threads t) then Err refusals.AlreadyCrossed else Ok tt)

-- the outcome of Cross
unfoldable pub cross_outcome : HeapState → ℕ → Outcome
cross_outcome h t = do
  _ ← may_cross h t
  Ok (cross_thread h t, answers.Done)

-- the outcome of CrossFor
unfoldable pub cross_for_outcome : HeapState → ℕ → Outcome
cross_for_outcome h t =
    if not (is_parked_in (slice_get h.threads t)) then Err refusals.NotParked else cross_outcome h t

-- the outcome of Park
unfoldable pub park_outcome : HeapState → ℕ → Outcome
park_outcome h t = Ok (with_parked h t true, answers.Done)

-- the outcome of Unpark
unfoldable pub unpark_outcome : HeapState → ℕ → Outcome
unpark_outcome h t =
    if is_parked_in (slice_get h.threads t) then Ok (with_parked h t false, answers.Done) else Err refusals.NotParked
