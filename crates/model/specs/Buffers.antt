-- Taking buffers, and giving them back.
use Rattle.std.specs.Prelude.{ℕ, ◌-◌, ◌==◌, Bool, false, List, Option, Some, None, slice_get, slice_set, replicate}
use Rattle.std.specs.Prelude.{if◌then◌else◌, is_some, Result, Ok, Err}
use Rattle.model.specs.declared.records.Buffer.{Buffer}
use Rattle.model.specs.Stores.{StoreState, take_buffer}
use Rattle.model.specs.declared.steps.Answer.TheVariants as answers
use Rattle.model.specs.declared.steps.Refusal.TheVariants as refusals
use Rattle.model.specs.declared.records.Room.{Room}
use Rattle.model.specs.declared.records.Room.TheVariants.{NoFrames, NoPages, NoMemory}
use Rattle.model.specs.Refusing.{Outcome}
use Rattle.model.specs.States.{HeapState, change_at}
use Rattle.model.specs.Threads.{set_buffer_of, buffer_in}

-- the heap with another buffer of a thread
unfoldable pub with_buffer : HeapState → ℕ → Option Buffer → HeapState
with_buffer h t b = record h { threads = change_at h.threads t (set_buffer_of b) }

-- the buffer of a thread
abbrev pub buffer_of_thread : HeapState → ℕ → Option Buffer
buffer_of_thread h t = buffer_in (slice_get h.threads t)

-- bitmaps in which a page that is opened for a buffer has one of a number of bits, all clear
abbrev pub opened_rows : ℕ → Buffer → List (List Bool) → List (List Bool)
opened_rows words b rows = if b.next == 0 then slice_set rows (b.page - 1) (replicate words false) else rows

-- the heap after a thread took a buffer of the store
unfoldable pub lend_buffer : HeapState → ℕ → StoreState → Buffer → HeapState
lend_buffer h t s b = record h {
  store = s;
  starts = opened_rows s.words b h.starts;
  live = opened_rows s.words b h.live;
  mark = opened_rows s.words b h.mark;
  todo = opened_rows s.words b h.todo;
  threads = change_at h.threads t (set_buffer_of (Some b));
}

-- thread t gets the buffer that the store gave, or the store's error
abbrev pub take_result : HeapState → ℕ → Result (StoreState × Buffer) Room → Outcome
take_result h t (Ok x) = Ok (lend_buffer h t x.0 x.1, answers.Lent x.1.page x.1.next)
take_result h t (Err NoFrames) = Err (refusals.NoFrames 1 0)
take_result h t (Err NoPages) = Err refusals.NoPages
take_result h t (Err NoMemory) = Err refusals.Memory

-- the outcome of Take
unfoldable pub take_outcome : HeapState → ℕ → ℕ → Outcome
take_outcome h t n =
    if is_some (buffer_of_thread h t) then Err refusals.HasBuffer else take_result h t (take_buffer h.store n)

-- the outcome of GiveBack
unfoldable pub give_back_outcome : HeapState → ℕ → Outcome
give_back_outcome h t =
    if is_some (buffer_of_thread h t) then Ok (with_buffer h t None, answers.Done) else Err refusals.NoRoom
