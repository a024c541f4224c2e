-- Starting and ending a mark.
use Rattle.std.specs.List.{list_any}
use Rattle.std.specs.Prelude.{ℕ, ◌==◌, ◌||◌, not, Bool, true, false, List, [], ◌∷◌, map, replicate}
use Rattle.std.specs.Prelude.{length, count_by, position, Option, Some, None, is_some, if◌then◌else◌, Result, Ok, Err}
use Rattle.model.specs.declared.records.Buffer.{Buffer}
use Rattle.model.specs.declared.records.Forwarding.{Forwarding}
use Rattle.model.specs.declared.records.Global.{Global}
use Rattle.model.specs.declared.records.Page.{Page}
use Rattle.model.specs.declared.records.Phase.TheVariants.{Idle, MarkCrossing}
use Rattle.model.specs.declared.steps.Answer.TheVariants as answers
use Rattle.model.specs.declared.steps.Refusal.{Refusal}
use Rattle.model.specs.declared.steps.Refusal.TheVariants as refusals
use Rattle.model.specs.Phases.{may_start_mark}
use Rattle.model.specs.Stores.{is_protected, store_after_mark}
use Rattle.model.specs.Refusing.{◌>>=◌, refuse_if, Outcome}
use Rattle.model.specs.States.{ThreadState, HeapState}
use Rattle.model.specs.Threads.{set_crossed_of}
use Rattle.model.specs.Bits.{blank_all, bit_count}
use Rattle.model.specs.Scans.{may_scan}

-- a mark starts

-- an entry's object isn't copied
abbrev pub is_uncopied : Forwarding → Bool
is_uncopied f = not f.copied

-- a global that is grey
abbrev pub set_todo_of : Global → Global
set_todo_of g = record g { todo = true }

-- the heap after a mark started: the clean value flips, all threads count as not crossed, and all globals are grey
unfoldable pub start_mark : HeapState → HeapState
start_mark h = record h {
  nmt = not h.nmt;
  threads = map (set_crossed_of false) h.threads;
  globals = map set_todo_of h.globals;
  phase = MarkCrossing;
}

-- the outcome of StartMark
unfoldable pub start_mark_outcome : HeapState → Outcome
start_mark_outcome h = if may_start_mark h.phase then Ok (start_mark h, answers.Done) else Err refusals.Phase

-- a mark ends

-- something is grey
unfoldable pub has_todo : HeapState → Bool
has_todo h = not (bit_count h.todo == 0) || list_any (λ (g : Global). g.todo) h.globals

-- the lowest-numbered thread with an open barrier
unfoldable pub first_pending : List ThreadState → Option ℕ
first_pending threads = position (λ (t : ThreadState). is_some t.barrier) threads

-- Ok if no barrier is open, else an error with the thread that has one
abbrev pub none_pending : Option ℕ → Result Unit Refusal
none_pending None = Ok tt
none_pending (Some t) = Err (refusals.Pending t)

-- a buffer, if there is one, is on page n
abbrev pub is_buffer_on : ℕ → Option Buffer → Bool
is_buffer_on n None = false
is_buffer_on n (Some b) = b.page == n

-- a buffer of page n is lent
unfoldable pub is_lent : List ThreadState → ℕ → Bool
is_lent threads n = list_any (λ (t : ThreadState). is_buffer_on n t.buffer) threads

-- the bitmaps of pages after a mark: protected pages have none
abbrev pub rows_after_mark : List Page → List (List Bool) → List (List Bool)
rows_after_mark [] rows = rows
rows_after_mark (p ∷ ps) [] = []
rows_after_mark (p ∷ ps) (row ∷ rows) = (if is_protected p.state then [] else row) ∷ rows_after_mark ps rows

-- the heap after a mark ended: the marked objects are live, and pages are as in `page_after_mark`
unfoldable pub end_mark : HeapState → HeapState
end_mark h = record h {
  store = store_after_mark (is_lent h.threads) h.store;
  starts = rows_after_mark h.store.pages h.starts;
  live = rows_after_mark h.store.pages h.mark;
  mark = blank_all (rows_after_mark h.store.pages h.live);
  todo = rows_after_mark h.store.pages h.todo;
  sides = replicate (length h.sides) [];
  phase = Idle;
}

-- how many pages a mark's end makes unused
unfoldable pub retired_count : HeapState → ℕ
retired_count h = count_by (λ (p : Page). is_protected p.state) h.store.pages

-- the outcome of EndMark
unfoldable pub end_mark_outcome : HeapState → Outcome
end_mark_outcome h = do
  _ ← may_scan h
  _ ← refuse_if (has_todo h) refusals.TodoLeft
  _ ← none_pending (first_pending h.threads)
  Ok (end_mark h, answers.Ended (bit_count h.mark) (retired_count h))
