-- The report: the heap's current state, what each mark has found, and the barrier counters of each thread.
use Rattle.std.specs.Prelude.{ℕ, ◌+◌, Bool, List, [], ◌∷◌, ◌++◌, length, count_by, is_some, Option, Some, None}
use Rattle.std.specs.Prelude.{slice_get, if◌then◌else◌}
use Rattle.model.specs.declared.steps.Answer.{Answer}
use Rattle.model.specs.declared.steps.Answer.TheVariants as answers
use Rattle.model.specs.declared.records.Forwarding.{Forwarding}
use Rattle.model.specs.declared.records.Global.{Global}
use Rattle.model.specs.declared.records.Page.{Page}
use Rattle.model.specs.States.{HeapState, ThreadState}
use Rattle.model.specs.Stores.{is_protected, is_unused}
use Rattle.entries.specs.declared.entry.Entry.{Entry}
use Rattle.reporting.specs.declared.wording.records.Copies.{Copies}
use Rattle.reporting.specs.declared.wording.report.Activity.{Activity}
use Rattle.reporting.specs.declared.wording.report.Activity.TheVariants as activities
use Rattle.reporting.specs.Lines.{texts_from}
use Rattle.reporting.specs.Lines as lines

-- a line and its newline
abbrev pub with_newline : List ℕ → List ℕ
with_newline line = line ++ 10 ∷ []

-- how many frames are owned by a page
abbrev pub used_frames : HeapState → ℕ
used_frames h = count_by is_some h.store.owners

-- the first line: the phase, the clean NMT bit, the births, and how many of the frames are used
abbrev pub head_line : HeapState → List ℕ
head_line h = with_newline (lines.head_line h.phase h.nmt h.births (used_frames h) (length h.store.frames))

-- how many bits are set in a bitmap that may be missing
abbrev pub bits_of_row : Option (List Bool) → ℕ
bits_of_row None = 0
bits_of_row (Some row) = count_by (λ b. b) row

-- how many bits are set in the bitmap of an index
abbrev pub bits_in : List (List Bool) → ℕ → ℕ
bits_in rows i = bits_of_row (slice_get rows i)

-- how many entries of a forwarding table are copied
abbrev pub copied_in : List Forwarding → ℕ
copied_in side = count_by (λ f. f.copied) side

-- how many of the entries of a forwarding table that may be missing are copied
abbrev pub copies_of_side : Option (List Forwarding) → Copies
copies_of_side None = record { copied = 0; entries = 0 }
copies_of_side (Some side) = record { copied = copied_in side; entries = length side }

-- the same for the forwarding table of an index
abbrev pub copies_in : List (List Forwarding) → ℕ → Copies
copies_in sides i = copies_of_side (slice_get sides i)

-- the copies of the page whose record has index i, if it is protected
abbrev pub copies_of : List (List Forwarding) → ℕ → Page → Option Copies
copies_of sides i p = if is_protected p.state then Some (copies_in sides i) else None

-- the line of the page whose record has index i; empty for an unused one
unfoldable pub page_line : HeapState → ℕ → Page → List ℕ
page_line h i p =
    if is_unused p.state then []
    else with_newline (lines.page_line (i + 1) p (bits_in h.starts i) (bits_in h.live i) (copies_of h.sides i p))

-- a thread's activity
abbrev pub activity_of : ThreadState → Activity
activity_of t = if t.parked then activities.Parked else
    (if is_some t.barrier then activities.Loading else activities.Running)

-- the line of thread n
abbrev pub thread_line : ℕ → ℕ → ThreadState → List ℕ
thread_line page_words n t = with_newline (lines.thread_line n (activity_of t) t.buffer page_words t.registers)

-- the line of global n
abbrev pub global_line : ℕ → ℕ → Global → List ℕ
global_line page_words n g = with_newline (lines.global_line page_words n g.word)

-- the line of mark number k, if the answer ended it
abbrev pub cycle_line : ℕ → Answer → List ℕ
cycle_line k (answers.Ended live retired) = with_newline (lines.cycle_line k live retired)
cycle_line k _ = []

-- the number of the next mark to end
abbrev pub next_cycle : ℕ → Answer → ℕ
next_cycle k (answers.Ended live retired) = k + 1
next_cycle k _ = k

-- the lines of the marks that ended, of which the first is number k
unfoldable pub cycles_from : ℕ → List Entry → List ℕ
cycles_from k [] = []
cycles_from k (e ∷ es) = cycle_line k e.answer ++ cycles_from (next_cycle k e.answer) es

-- the line of the barrier counters of thread n
abbrev pub barrier_line : ℕ → ThreadState → List ℕ
barrier_line n t = with_newline (lines.barrier_line n t.tally)

-- the heap's current state
unfoldable pub state_text : HeapState → List ℕ
state_text h =
    head_line h
    ++ (texts_from (page_line h) 0 h.store.pages
    ++ (texts_from (thread_line h.store.words) 0 h.threads
    ++ texts_from (global_line h.store.words) 0 h.globals))

-- the heap's current state, what each mark has found, and the barrier counters of each thread
unfoldable pub report_text : HeapState → List Entry → List ℕ
report_text h history = state_text h ++ (cycles_from 1 history ++ texts_from barrier_line 0 h.threads)

-- the same for a heap without a history, as a program has it: without what marks have found
abbrev pub heap_text : HeapState → List ℕ
heap_text h = report_text h []
