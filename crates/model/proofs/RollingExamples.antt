-- Worked examples of deferred relocation: marks that run while objects of protected pages are uncopied, computed by
-- the definitions of the steps.
use Rattle.std.proofs.Common.{List, [], ◌∷◌, ◌++◌, refl}
use Rattle.std.specs.Prelude.{Ok, Err}
use Rattle.model.specs.declared.steps.Step.TheVariants as steps
use Rattle.model.specs.declared.steps.Answer.TheVariants as answers
use Rattle.model.specs.declared.steps.Refusal.TheVariants as refusals
use Rattle.model.specs.Stores.{page_at, state_at, spot_of, word_at, with_words, with_word, words_at}
use Rattle.model.specs.Stores.{page_with_room, free_frame, unused_page, open_fresh, give_words, take_buffer}
use Rattle.model.specs.Stores.{store_after_mark, first_store}
use Rattle.model.specs.Registers.{register_of, with_register, let_through, usable, usable_or_null}
use Rattle.model.specs.Registers.{same_outcome, is_null_outcome, copy_register_outcome}
use Rattle.model.specs.Registers.{clear_register_outcome}
use Rattle.model.specs.Data.{layout_at, datum_at, datum_outcome, set_datum_outcome}
use Rattle.model.specs.References.{field_at, global_of, with_global, store_outcome, store_global_outcome}
use Rattle.model.specs.Buffers.{with_buffer, lend_buffer, take_outcome, give_back_outcome}
use Rattle.model.specs.Births.{place_object, new_outcome}
use Rattle.model.specs.Marks.{entry_at, resolve, with_mark, marked_word}
use Rattle.model.specs.Loads.{with_barrier, with_loaded, load_outcome, load_global_outcome, trap_due}
use Rattle.model.specs.Loads.{heal_place, heal_outcome, end_load, finish_outcome}
use Rattle.model.specs.Checkpoints.{with_parked, first_behind, all_crossed, with_crossed}
use Rattle.model.specs.Checkpoints.{with_marked_word, with_marked_register, cross_thread, may_cross, cross_outcome}
use Rattle.model.specs.Checkpoints.{cross_for_outcome, park_outcome, unpark_outcome}
use Rattle.model.specs.Scans.{with_scan, is_taken, may_scan, pick_outcome, with_marked_place, with_scan_end}
use Rattle.model.specs.Scans.{mark_place, scan_field_outcome, with_marked_global, mark_global, scan_global_outcome}
use Rattle.model.specs.Scans.{is_free_todo, next_todo, next_drain}
use Rattle.model.specs.Cycles.{start_mark, start_mark_outcome, has_todo, first_pending}
use Rattle.model.specs.Cycles.{is_lent, end_mark, retired_count, end_mark_outcome}
use Rattle.model.specs.Traps.{trap_outcome, scrub_outcome}
use Rattle.model.specs.First.{first_heap}
use Rattle.model.specs.Outcome.{no_register, no_global, no_page, thread_gate, worker_gate, outcome}
use Rattle.model.specs.Plans.{live_offsets, live_objects, object_words, plan_of, moves_of, side_of}
use Rattle.model.specs.Protections.{take_target, with_target, with_protected, protect, ripe, free_count, unused_count}
use Rattle.model.specs.Protections.{room_for, protect_outcome}
use Rattle.model.specs.Moves.{with_copied_words, with_copy, copied_first, copied_for, moved_word, with_released}
use Rattle.model.specs.Emptying.{entry_on, copy_outcome, copy_page, copy_page_outcome, crossed_if_protecting}
use Rattle.model.specs.Emptying.{release_outcome}
use Rattle.model.proofs.Examples.{Line, thread, worker, heap_after, reply_of, replies, config}
use Rattle.model.proofs.MovingExamples.{closed_page, Computes}

-- A mark's crossing copies the object of a register, and the page that was never released is unused after the mark.
copied_by_a_mark : List Line
copied_by_a_mark =
    worker 0 (steps.Protect (1 ∷ [])) (Ok (answers.Protected 1 1)) ∷
    thread 0 steps.Cross (Ok answers.Done) ∷
    thread 1 steps.Cross (Ok answers.Done) ∷
    worker 0 steps.StartMark (Ok answers.Done) ∷
    thread 0 steps.Cross (Ok answers.Done) ∷
    worker 0 (steps.Copy 1 0) (Err refusals.Copied) ∷
    thread 1 steps.Cross (Ok answers.Done) ∷
    worker 0 (steps.ScanGlobal 0) (Ok answers.Done) ∷
    worker 0 (steps.Pick 2 0) (Ok answers.Done) ∷
    worker 0 steps.ScanField (Ok answers.Scanned) ∷
    worker 0 steps.ScanField (Ok answers.Finished) ∷
    worker 0 steps.EndMark (Ok (answers.Ended 1 1)) ∷
    thread 0 (steps.Datum 0 0) (Ok (answers.Datum 5)) ∷
    []

-- Workers copy and release while a mark runs.
released_in_a_mark : List Line
released_in_a_mark =
    worker 0 (steps.Protect (1 ∷ [])) (Ok (answers.Protected 1 1)) ∷
    thread 0 steps.Cross (Ok answers.Done) ∷
    worker 0 (steps.Copy 9 0) (Err refusals.BadIndex) ∷
    worker 0 (steps.Copy 1 0) (Err (refusals.NotCrossed 1)) ∷
    worker 0 (steps.CopyPage 1) (Err (refusals.NotCrossed 1)) ∷
    thread 1 steps.Cross (Ok answers.Done) ∷
    worker 0 steps.StartMark (Ok answers.Done) ∷
    worker 0 (steps.Release 1) (Err (refusals.Uncopied 1)) ∷
    worker 0 (steps.Copy 2 0) (Err refusals.BadIndex) ∷
    worker 0 (steps.Copy 1 1) (Err refusals.BadIndex) ∷
    worker 0 (steps.Copy 1 0) (Ok (answers.MovedTo 2 0)) ∷
    worker 0 (steps.CopyPage 1) (Ok (answers.CopiedPage 0)) ∷
    worker 0 (steps.Release 1) (Ok (answers.Released 2)) ∷
    thread 0 (steps.Datum 0 0) (Err refusals.Stale) ∷
    thread 0 (steps.Scrub 0) (Ok answers.Moved) ∷
    thread 0 (steps.Datum 0 0) (Ok (answers.Datum 5)) ∷
    []

-- An object without references to it isn't copied, and its page loses its frame when the mark ends.
never_copied : List Line
never_copied =
    worker 0 (steps.Protect (1 ∷ [])) (Ok (answers.Protected 1 1)) ∷
    thread 0 steps.Cross (Ok answers.Done) ∷
    thread 1 steps.Cross (Ok answers.Done) ∷
    thread 0 (steps.ClearReg 0) (Ok answers.Done) ∷
    thread 1 (steps.ClearReg 0) (Ok answers.Done) ∷
    thread 0 (steps.StoreGlobal 0 1) (Ok answers.Done) ∷
    worker 0 steps.StartMark (Ok answers.Done) ∷
    thread 0 steps.Cross (Ok answers.Done) ∷
    thread 1 steps.Cross (Ok answers.Done) ∷
    worker 0 (steps.ScanGlobal 0) (Ok answers.Done) ∷
    worker 0 steps.EndMark (Ok (answers.Ended 0 1)) ∷
    []

rolling_computes : Computes (closed_page ++ copied_by_a_mark) × Computes (closed_page ++ released_in_a_mark)
    × Computes (closed_page ++ never_copied)
unfolding page_at state_at spot_of word_at with_words with_word words_at page_with_room free_frame unused_page
    open_fresh give_words take_buffer store_after_mark first_store register_of with_register let_through usable
    usable_or_null same_outcome is_null_outcome copy_register_outcome clear_register_outcome layout_at datum_at
    datum_outcome set_datum_outcome field_at global_of with_global store_outcome store_global_outcome with_buffer
    lend_buffer take_outcome give_back_outcome place_object new_outcome entry_at resolve with_mark marked_word
    with_barrier with_loaded load_outcome load_global_outcome trap_due trap_outcome heal_place heal_outcome end_load
    finish_outcome with_parked first_behind all_crossed with_crossed with_marked_word with_marked_register
    cross_thread may_cross cross_outcome cross_for_outcome scrub_outcome park_outcome unpark_outcome with_scan
    is_taken may_scan pick_outcome with_marked_place mark_place with_scan_end scan_field_outcome with_marked_global
    mark_global scan_global_outcome is_free_todo next_todo next_drain start_mark start_mark_outcome has_todo
    first_pending is_lent end_mark retired_count end_mark_outcome first_heap no_register no_global no_page thread_gate
    worker_gate outcome live_offsets live_objects object_words plan_of moves_of side_of take_target with_target
    with_protected protect ripe free_count unused_count room_for protect_outcome with_copied_words with_copy
    copied_first copied_for moved_word entry_on copy_outcome copy_page copy_page_outcome with_released
    crossed_if_protecting release_outcome
    replies reply_of heap_after config thread worker closed_page copied_by_a_mark released_in_a_mark never_copied
rolling_computes = (refl, refl, refl)
