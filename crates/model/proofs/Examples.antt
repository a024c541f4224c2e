-- Worked examples of marks, computed by the definitions of the steps.
use Rattle.std.proofs.Common.{◌≡◌, ℕ, ◌^◌, true, List, [], ◌∷◌, map, refl}
use Rattle.std.specs.Prelude.{Result, Ok, Err}
use Rattle.model.specs.declared.config.Config.{Config}
use Rattle.model.specs.declared.steps.Actor.{Actor}
use Rattle.model.specs.declared.steps.Actor.TheVariants.{Thread, Worker}
use Rattle.model.specs.declared.steps.Step.{Step}
use Rattle.model.specs.declared.steps.Step.TheVariants as steps
use Rattle.model.specs.declared.steps.Answer.{Answer}
use Rattle.model.specs.declared.steps.Answer.TheVariants as answers
use Rattle.model.specs.declared.steps.Refusal.{Refusal}
use Rattle.model.specs.declared.steps.Refusal.TheVariants as refusals
use Rattle.model.specs.States.{HeapState}
use Rattle.model.specs.Refusing.{Outcome}
use Rattle.model.specs.Stores.{page_at, state_at, spot_of, word_at, with_words, with_word, words_at}
use Rattle.model.specs.Stores.{page_with_room, free_frame, unused_page, open_fresh, give_words, take_buffer}
use Rattle.model.specs.Stores.{store_after_mark, first_store}
use Rattle.model.specs.Registers.{register_of, with_register, let_through, usable, usable_or_null}
use Rattle.model.specs.Registers.{same_outcome, is_null_outcome, copy_register_outcome}
use Rattle.model.specs.Registers.{clear_register_outcome}
use Rattle.model.specs.Data.{layout_at, datum_at, datum_outcome, set_datum_outcome}
use Rattle.model.specs.References.{field_at, global_of, with_global, store_outcome, store_global_outcome}
use Rattle.model.specs.Buffers.{with_buffer, lend_buffer, take_outcome, give_back_outcome}
use Rattle.model.specs.Births.{place_object, new_outcome}
use Rattle.model.specs.Marks.{entry_at, resolve, with_mark, marked_word}
use Rattle.model.specs.Moves.{copied_first, copied_for}
use Rattle.model.specs.Loads.{with_barrier, with_loaded, load_outcome, load_global_outcome, trap_due}
use Rattle.model.specs.Loads.{heal_place, heal_outcome, end_load, finish_outcome}
use Rattle.model.specs.Checkpoints.{with_parked, first_behind, all_crossed, with_crossed}
use Rattle.model.specs.Checkpoints.{with_marked_word, with_marked_register, cross_thread, may_cross, cross_outcome}
use Rattle.model.specs.Checkpoints.{cross_for_outcome, park_outcome, unpark_outcome}
use Rattle.model.specs.Scans.{with_scan, is_taken, may_scan, pick_outcome, with_marked_place, with_scan_end}
use Rattle.model.specs.Scans.{mark_place, scan_field_outcome, with_marked_global, mark_global, scan_global_outcome}
use Rattle.model.specs.Scans.{is_free_todo, next_todo, next_drain}
use Rattle.model.specs.Cycles.{start_mark, start_mark_outcome, has_todo, first_pending}
use Rattle.model.specs.Cycles.{is_lent, end_mark, retired_count, end_mark_outcome}
use Rattle.model.specs.Traps.{trap_outcome, scrub_outcome}
use Rattle.model.specs.First.{first_heap}
use Rattle.model.specs.Outcome.{no_register, no_global, no_page, thread_gate, worker_gate, outcome}

-- an actor's step, and its reply
pub record Line : Type 0 where
  pub actor : Actor
  pub step : Step
  pub reply : Result Answer Refusal

unfoldable pub thread : ℕ → Step → Result Answer Refusal → Line
thread t s r = record { actor = Thread t; step = s; reply = r }

unfoldable pub worker : ℕ → Step → Result Answer Refusal → Line
worker w s r = record { actor = Worker w; step = s; reply = r }

unfoldable pub heap_after : HeapState → Outcome → HeapState
heap_after h (Ok y) = y.0
heap_after h (Err e) = h

unfoldable pub reply_of : Outcome → Result Answer Refusal
reply_of (Ok y) = Ok y.1
reply_of (Err e) = Err e

-- the replies to the steps of these lines, in order
unfoldable pub replies : HeapState → List Line → List (Result Answer Refusal)
replies h [] = []
replies h (l ∷ ls) =
    reply_of (outcome h l.actor l.step) ∷ replies (heap_after h (outcome h l.actor l.step)) ls

-- pages of 16 words, three frames, two threads and a worker; an object has one reference and one datum
unfoldable pub config : Config
config = record {
  words = 16;
  frames = 3;
  pages = 8;
  threads = 2;
  workers = 1;
  registers = 4;
  globals = 1;
  layouts = record { refs = 1; nums = 1 } ∷ [];
  births = 2 ^ 32;
  history = 1000000;
}

-- The NMT bit doesn't matter: a register from before the mark and one from within it refer to one object.
bits_dont_count : List Line
bits_dont_count =
    thread 0 (steps.Take 16) (Ok (answers.Lent 1 0)) ∷
    thread 0 (steps.New 0 0) (Ok (answers.Birth 0)) ∷
    thread 0 (steps.StoreGlobal 0 0) (Ok answers.Done) ∷
    worker 0 steps.StartMark (Ok answers.Done) ∷
    thread 1 steps.Cross (Ok answers.Done) ∷
    thread 1 (steps.LoadGlobal 0 0) (Ok answers.Loaded) ∷
    thread 1 steps.Trap (Ok answers.Marked) ∷
    thread 1 steps.Trap (Ok answers.Clear) ∷
    thread 1 steps.Heal (Ok answers.Healed) ∷
    thread 1 steps.Finish (Ok answers.Done) ∷
    thread 0 (steps.LoadGlobal 1 0) (Ok answers.Loaded) ∷
    thread 0 steps.Trap (Ok answers.Clear) ∷
    thread 0 steps.Finish (Ok answers.Done) ∷
    thread 0 (steps.Same 0 1) (Ok (answers.Truth true)) ∷
    []

-- A reference from before the mark is stored in an object that was born within it.
old_into_new : List Line
old_into_new =
    thread 0 (steps.Take 8) (Ok (answers.Lent 1 0)) ∷
    thread 1 (steps.Take 8) (Ok (answers.Lent 1 8)) ∷
    thread 1 (steps.New 0 0) (Ok (answers.Birth 0)) ∷
    worker 0 steps.StartMark (Ok answers.Done) ∷
    thread 0 steps.Cross (Ok answers.Done) ∷
    thread 0 (steps.New 0 0) (Ok (answers.Birth 1)) ∷
    thread 0 (steps.StoreGlobal 0 0) (Ok answers.Done) ∷
    thread 1 (steps.LoadGlobal 1 0) (Ok answers.Loaded) ∷
    thread 1 steps.Trap (Ok answers.Clear) ∷
    thread 1 steps.Finish (Ok answers.Done) ∷
    thread 1 (steps.Store 1 0 0) (Ok answers.Done) ∷
    thread 1 (steps.ClearReg 0) (Ok answers.Done) ∷
    thread 1 steps.Cross (Ok answers.Done) ∷
    worker 0 (steps.ScanGlobal 0) (Ok answers.Done) ∷
    worker 0 (steps.Pick 1 0) (Ok answers.Done) ∷
    worker 0 steps.ScanField (Ok answers.Scanned) ∷
    worker 0 steps.ScanField (Ok answers.Finished) ∷
    worker 0 (steps.Pick 1 8) (Ok answers.Done) ∷
    worker 0 steps.ScanField (Ok answers.Scanned) ∷
    worker 0 steps.ScanField (Ok answers.Finished) ∷
    worker 0 steps.EndMark (Ok (answers.Ended 2 0)) ∷
    thread 0 (steps.Load 1 0 0) (Ok answers.Loaded) ∷
    thread 0 steps.Trap (Ok answers.Clear) ∷
    thread 0 steps.Finish (Ok answers.Done) ∷
    thread 0 (steps.Datum 1 0) (Ok (answers.Datum 0)) ∷
    []

-- A mark can't end while an open barrier has a reference that isn't marked.
known_to_a_barrier : List Line
known_to_a_barrier =
    thread 0 (steps.Take 16) (Ok (answers.Lent 1 0)) ∷
    thread 0 (steps.New 0 0) (Ok (answers.Birth 0)) ∷
    thread 0 (steps.New 1 0) (Ok (answers.Birth 1)) ∷
    thread 0 (steps.SetDatum 1 0 7) (Ok answers.Done) ∷
    thread 0 (steps.Store 0 0 1) (Ok answers.Done) ∷
    thread 0 (steps.StoreGlobal 0 0) (Ok answers.Done) ∷
    thread 0 (steps.ClearReg 1) (Ok answers.Done) ∷
    thread 1 (steps.LoadGlobal 0 0) (Ok answers.Loaded) ∷
    thread 1 steps.Trap (Ok answers.Clear) ∷
    thread 1 steps.Finish (Ok answers.Done) ∷
    worker 0 steps.StartMark (Ok answers.Done) ∷
    thread 0 steps.Cross (Ok answers.Done) ∷
    thread 1 steps.Cross (Ok answers.Done) ∷
    thread 0 (steps.Load 1 0 0) (Ok answers.Loaded) ∷
    thread 1 (steps.Store 0 0 1) (Ok answers.Done) ∷
    worker 0 (steps.ScanGlobal 0) (Ok answers.Done) ∷
    worker 0 (steps.Pick 1 0) (Ok answers.Done) ∷
    worker 0 steps.ScanField (Ok answers.Scanned) ∷
    worker 0 steps.ScanField (Ok answers.Finished) ∷
    worker 0 steps.EndMark (Err (refusals.Pending 0)) ∷
    thread 0 steps.Trap (Ok answers.Marked) ∷
    worker 0 steps.EndMark (Err refusals.TodoLeft) ∷
    thread 0 steps.Heal (Ok answers.Changed) ∷
    thread 0 steps.Finish (Ok answers.Done) ∷
    worker 0 (steps.Pick 1 3) (Ok answers.Done) ∷
    worker 0 steps.ScanField (Ok answers.Scanned) ∷
    worker 0 steps.ScanField (Ok answers.Finished) ∷
    worker 0 steps.EndMark (Ok (answers.Ended 2 0)) ∷
    thread 0 (steps.Datum 1 0) (Ok (answers.Datum 7)) ∷
    []

-- The errors of a mark's steps, in a second mark.
each_refusal : List Line
each_refusal =
    thread 0 (steps.Take 16) (Ok (answers.Lent 1 0)) ∷
    thread 0 (steps.New 0 0) (Ok (answers.Birth 0)) ∷
    thread 0 (steps.SetDatum 0 0 5) (Ok answers.Done) ∷
    thread 0 (steps.StoreGlobal 0 0) (Ok answers.Done) ∷
    thread 0 steps.GiveBack (Ok answers.Done) ∷
    thread 1 (steps.LoadGlobal 0 0) (Ok answers.Loaded) ∷
    thread 1 steps.Trap (Ok answers.Clear) ∷
    thread 1 steps.Finish (Ok answers.Done) ∷
    worker 0 steps.StartMark (Ok answers.Done) ∷
    thread 0 steps.Cross (Ok answers.Done) ∷
    thread 1 steps.Cross (Ok answers.Done) ∷
    worker 0 (steps.ScanGlobal 0) (Ok answers.Done) ∷
    worker 0 (steps.Pick 1 0) (Ok answers.Done) ∷
    worker 0 steps.ScanField (Ok answers.Scanned) ∷
    worker 0 steps.ScanField (Ok answers.Finished) ∷
    worker 0 steps.EndMark (Ok (answers.Ended 1 0)) ∷
    worker 0 steps.ScanField (Err refusals.Phase) ∷
    worker 0 (steps.CrossFor 1) (Err refusals.NotParked) ∷
    thread 1 steps.Park (Ok answers.Done) ∷
    worker 0 (steps.CrossFor 1) (Err refusals.Phase) ∷
    worker 0 steps.StartMark (Ok answers.Done) ∷
    worker 0 steps.StartMark (Err refusals.Phase) ∷
    worker 0 (steps.Pick 1 0) (Err (refusals.NotCrossed 0)) ∷
    thread 0 steps.Cross (Ok answers.Done) ∷
    thread 0 steps.Cross (Err refusals.AlreadyCrossed) ∷
    worker 0 (steps.ScanGlobal 0) (Err (refusals.NotCrossed 1)) ∷
    worker 0 (steps.CrossFor 1) (Ok answers.Done) ∷
    worker 0 (steps.CrossFor 1) (Err refusals.Phase) ∷
    worker 0 steps.ScanField (Err refusals.NotTodo) ∷
    worker 0 (steps.Pick 1 1) (Err refusals.NotTodo) ∷
    worker 0 (steps.Pick 1 16) (Err refusals.NotTodo) ∷
    worker 0 (steps.Pick 9 0) (Err refusals.BadIndex) ∷
    worker 0 (steps.Pick 1 0) (Ok answers.Done) ∷
    worker 0 steps.EndMark (Err refusals.TodoLeft) ∷
    worker 0 (steps.Pick 1 0) (Err refusals.Taken) ∷
    worker 0 steps.ScanField (Ok answers.Scanned) ∷
    worker 0 steps.ScanField (Ok answers.Finished) ∷
    worker 0 steps.EndMark (Err refusals.TodoLeft) ∷
    worker 0 (steps.ScanGlobal 0) (Ok answers.Done) ∷
    worker 0 (steps.ScanGlobal 0) (Err refusals.NotTodo) ∷
    worker 0 (steps.ScanGlobal 1) (Err refusals.BadIndex) ∷
    worker 0 steps.EndMark (Ok (answers.Ended 1 0)) ∷
    thread 1 steps.Cross (Err refusals.Parked) ∷
    thread 0 steps.Cross (Err refusals.Phase) ∷
    []

-- An unreachable object isn't live after the mark, and a page without a lent buffer closes.
what_dies : List Line
what_dies =
    thread 0 (steps.Take 16) (Ok (answers.Lent 1 0)) ∷
    thread 0 (steps.New 0 0) (Ok (answers.Birth 0)) ∷
    thread 0 (steps.New 1 0) (Ok (answers.Birth 1)) ∷
    thread 0 (steps.ClearReg 0) (Ok answers.Done) ∷
    thread 0 steps.GiveBack (Ok answers.Done) ∷
    worker 0 steps.StartMark (Ok answers.Done) ∷
    thread 0 steps.Cross (Ok answers.Done) ∷
    thread 1 steps.Cross (Ok answers.Done) ∷
    worker 0 (steps.ScanGlobal 0) (Ok answers.Done) ∷
    worker 0 (steps.Pick 1 3) (Ok answers.Done) ∷
    worker 0 steps.ScanField (Ok answers.Scanned) ∷
    worker 0 steps.ScanField (Ok answers.Finished) ∷
    worker 0 steps.EndMark (Ok (answers.Ended 1 0)) ∷
    thread 0 (steps.Take 3) (Ok (answers.Lent 2 0)) ∷
    []

-- the heap of this configuration has these replies
abbrev Computes : List Line → Type 0
Computes lines = replies (first_heap config) lines ≡ map (λ (l : Line). l.reply) lines

examples_compute : Computes bits_dont_count × Computes old_into_new × Computes known_to_a_barrier
    × Computes each_refusal × Computes what_dies
unfolding page_at state_at spot_of word_at with_words with_word words_at page_with_room free_frame unused_page
    open_fresh give_words take_buffer store_after_mark first_store register_of with_register let_through usable
    usable_or_null same_outcome is_null_outcome copy_register_outcome clear_register_outcome layout_at datum_at
    datum_outcome set_datum_outcome field_at global_of with_global store_outcome store_global_outcome with_buffer
    lend_buffer take_outcome give_back_outcome place_object new_outcome entry_at resolve with_mark marked_word
    with_barrier with_loaded load_outcome load_global_outcome trap_due trap_outcome heal_place heal_outcome end_load
    finish_outcome with_parked first_behind all_crossed with_crossed with_marked_word with_marked_register
    cross_thread may_cross cross_outcome cross_for_outcome scrub_outcome park_outcome unpark_outcome with_scan
    is_taken may_scan pick_outcome with_marked_place mark_place with_scan_end scan_field_outcome with_marked_global
    mark_global scan_global_outcome is_free_todo next_todo next_drain start_mark start_mark_outcome has_todo
    first_pending is_lent end_mark retired_count end_mark_outcome first_heap no_register no_global no_page thread_gate
    worker_gate outcome copied_first copied_for replies reply_of heap_after config thread worker bits_dont_count
    old_into_new known_to_a_barrier each_refusal what_dies
examples_compute = (refl, refl, refl, refl, refl)
