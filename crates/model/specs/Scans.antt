-- Scans: workers mark the references of objects and globals.
use Rattle.std.specs.List.{list_any, range_with_len}
use Rattle.std.specs.Prelude.{ℕ, ◌+◌, ◌*◌, ◌/◌, ◌%◌, ◌==◌, ◌&&◌, ◌||◌, Bool, false, not, length, find, position}
use Rattle.std.specs.Prelude.{Option, Some, None, is_some, nat_lt, slice_get, slice_set, if◌then◌else◌, Result, Ok, Err}
use Rattle.refword.specs.Words.{bits_of}
use Rattle.model.specs.declared.records.Global.{Global}
use Rattle.model.specs.declared.records.Scan.{Scan}
use Rattle.model.specs.declared.steps.Step.{Step}
use Rattle.model.specs.declared.steps.Step.TheVariants as steps
use Rattle.model.specs.declared.steps.Answer.TheVariants as answers
use Rattle.model.specs.declared.steps.Refusal.{Refusal}
use Rattle.model.specs.declared.steps.Refusal.TheVariants as refusals
use Rattle.model.specs.Phases.{is_marking}
use Rattle.model.specs.Stores.{word_at, with_word}
use Rattle.model.specs.Refusing.{◌>>=◌, or_refuse, Outcome}
use Rattle.model.specs.States.{Reference, HeapState, flat, change_at}
use Rattle.model.specs.Bits.{bit_on, bit_at, with_bit}
use Rattle.model.specs.References.{read_reference, field_at, global_of}
use Rattle.model.specs.Marks.{with_mark, marked_word}
use Rattle.model.specs.Moves.{copied_for}
use Rattle.model.specs.Checkpoints.{all_crossed}

-- scans of workers

-- what a worker scans; none if there is no such worker
abbrev pub scan_of : HeapState → ℕ → Option Scan
scan_of h w = flat (slice_get h.workers w)

-- the heap in which a worker has another object, or none
unfoldable pub with_scan : HeapState → ℕ → Option Scan → HeapState
with_scan h w s = record h { workers = slice_set h.workers w s }

-- a scan at its start
abbrev pub first_field : ℕ → Scan
first_field address = record { object = address; next = 0 }

-- a scan after one more field
abbrev pub next_field : Scan → Scan
next_field s = record s { next = s.next + 1 }

-- a worker has the object at an address
abbrev pub is_scan_of : ℕ → Option Scan → Bool
is_scan_of address None = false
is_scan_of address (Some s) = s.object == address

-- some worker has the object at an address
unfoldable pub is_taken : HeapState → ℕ → Bool
is_taken h address = list_any (is_scan_of address) h.workers

-- a mark runs, and all threads have crossed
unfoldable pub may_scan : HeapState → Result Unit Refusal
may_scan h = if is_marking h.phase then all_crossed h else Err refusals.Phase

-- the outcome of Pick
unfoldable pub pick_outcome : HeapState → ℕ → ℕ → ℕ → Outcome
pick_outcome h w page offset = do
  _ ← may_scan h
  if not (nat_lt offset h.store.words && bit_on h.todo page offset) then Err refusals.NotTodo else
      (if is_some (scan_of h w) || is_taken h (page * h.store.words + offset) then Err refusals.Taken
      else Ok (with_scan h w (Some (first_field (page * h.store.words + offset))), answers.Done))

-- fields

-- the reference at a place in memory; null if the place has no memory
abbrev pub reference_in : Option ℕ → Reference
reference_in None = None
reference_in (Some bits) = read_reference bits

-- the heap after a reference was marked, and written back corrected to a place in memory
unfoldable pub with_marked_place : HeapState → ℕ → Reference → HeapState
with_marked_place h place v =
    record (with_mark h v) { store = with_word h.store place (bits_of (marked_word h v)) }

-- the heap after the reference at a place in memory was marked, and written back; its object is copied first if it
-- isn't copied
unfoldable pub mark_place : HeapState → ℕ → Reference → HeapState
mark_place h place v = with_marked_place (copied_for h v) place v

-- the heap after a worker has scanned its object
unfoldable pub with_scan_end : HeapState → ℕ → Scan → HeapState
with_scan_end h w s = record (with_scan h w None) { todo = with_bit h.todo h.store.words s.object false }

-- a step of a worker's scan, by the place of the next field, if one is left
abbrev pub scan_next : HeapState → ℕ → Scan → Option ℕ → Outcome
scan_next h w s None = Ok (with_scan_end h w s, answers.Finished)
scan_next h w s (Some place) = Ok (
  with_scan (mark_place h place (reference_in (word_at h.store place))) w (Some (next_field s)),
  answers.Scanned,
)

-- the outcome of ScanField
unfoldable pub scan_field_outcome : HeapState → ℕ → Outcome
scan_field_outcome h w = do
  _ ← may_scan h
  s ← or_refuse (scan_of h w) refusals.NotTodo
  scan_next h w s (field_at h s.object s.next)

-- globals

-- a global, if it exists, is grey
abbrev pub is_todo_in : Option Global → Bool
is_todo_in None = false
is_todo_in (Some g) = g.todo

-- a global that isn't grey, with a reference
abbrev pub set_marked_of : Reference → Global → Global
set_marked_of w g = record g { word = w; todo = false }

-- the heap after a reference was marked, and written back corrected to a global, which isn't grey then
unfoldable pub with_marked_global : HeapState → ℕ → Reference → HeapState
with_marked_global h g v =
    record (with_mark h v) { globals = change_at h.globals g (set_marked_of (marked_word h v)) }

-- the heap after a global was marked, and written back; its object is copied first if it isn't copied
unfoldable pub mark_global : HeapState → ℕ → HeapState
mark_global h g = with_marked_global (copied_for h (global_of h g)) g (global_of h g)

-- the outcome of ScanGlobal
unfoldable pub scan_global_outcome : HeapState → ℕ → Outcome
scan_global_outcome h g = do
  _ ← may_scan h
  if is_todo_in (slice_get h.globals g) then Ok (mark_global h g, answers.Done) else Err refusals.NotTodo

-- the next step

-- the object at an address is grey, and no worker has it
unfoldable pub is_free_todo : HeapState → ℕ → Bool
is_free_todo h address = bit_at h.todo h.store.words address && not (is_taken h address)

-- the lowest address of a grey object that no worker has
unfoldable pub next_todo : HeapState → Option ℕ
next_todo h = find (is_free_todo h) (range_with_len h.store.words (length h.todo * h.store.words))

-- picking the object at an address, if there is one
abbrev pub pick_step : ℕ → Option ℕ → Option Step
pick_step words None = None
pick_step words (Some address) = Some (steps.Pick (address / words) (address % words))

-- marking a global, if there is one, else another step
abbrev pub global_step_or : Option Step → Option ℕ → Option Step
global_step_or other None = other
global_step_or other (Some g) = Some (steps.ScanGlobal g)

-- a worker's next step in a mark drain: it scans the object that it has; else it marks the first grey global; else it
-- picks the next object; none if no object is left
unfoldable pub next_drain : HeapState → ℕ → Option Step
next_drain h w = if is_some (scan_of h w) then Some steps.ScanField else
    global_step_or (pick_step h.store.words (next_todo h)) (position (λ (g : Global). g.todo) h.globals)
