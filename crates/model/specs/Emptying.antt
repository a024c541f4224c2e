-- Emptying protected pages: the outcomes of Copy, CopyPage and Release. All are also possible while the next mark
-- runs.
use Rattle.std.specs.List.{list_any}
use Rattle.std.specs.Prelude.{ℕ, zero, suc, ◌*◌, ◌+◌, ◌/◌, ◌%◌, not, Option, None, slice_get, if◌then◌else◌, Result, Ok}
use Rattle.std.specs.Prelude.{Err}
use Rattle.std.specs.Prelude.{length, count_by}
use Rattle.model.specs.declared.records.Forwarding.{Forwarding}
use Rattle.model.specs.declared.steps.Answer.TheVariants as answers
use Rattle.model.specs.declared.steps.Refusal.{Refusal}
use Rattle.model.specs.declared.steps.Refusal.TheVariants as refusals
use Rattle.model.specs.Phases.{is_idle, is_protect_crossing}
use Rattle.model.specs.Stores.{state_at, is_from}
use Rattle.model.specs.Refusing.{◌>>=◌, or_refuse, refuse_if, Outcome}
use Rattle.model.specs.States.{HeapState}
use Rattle.model.specs.Bits.{of_page}
use Rattle.model.specs.Checkpoints.{all_crossed}
use Rattle.model.specs.Cycles.{is_uncopied}
use Rattle.model.specs.Moves.{with_copy, with_released}
use Rattle.model.specs.Protections.{free_count}

-- if pages are being protected, all threads have crossed
unfoldable pub crossed_if_protecting : HeapState → Result Unit Refusal
crossed_if_protecting h = if is_protect_crossing h.phase then all_crossed h else Ok tt

-- an entry of a From page, by its number
unfoldable pub entry_on : HeapState → ℕ → ℕ → Option Forwarding
entry_on h page e = if is_from (state_at h.store page) then slice_get (of_page h.sides page) e else None

-- the outcome of Copy
unfoldable pub copy_outcome : HeapState → ℕ → ℕ → Outcome
copy_outcome h page e = do
  _ ← refuse_if (is_idle h.phase) refusals.Phase
  _ ← crossed_if_protecting h
  f ← or_refuse (entry_on h page e) refusals.BadIndex
  _ ← refuse_if f.copied refusals.Copied
  Ok (with_copy h (page * h.store.words + f.offset) f.to, answers.MovedTo (f.to / h.store.words) (f.to % h.store.words))

-- complete pages

-- the heap after a step: an error leaves it as it was
abbrev pub heap_after : HeapState → Outcome → HeapState
heap_after h (Ok x) = x.0
heap_after h (Err n) = h

-- the heap after Copy of a number of entries of a page in order, from number e on; that of an entry whose object is
-- already copied fails
abbrev pub copies_from : HeapState → ℕ → ℕ → ℕ → HeapState
copies_from h page e zero = h
copies_from h page e (suc k) = copies_from (heap_after h (copy_outcome h page e)) page (e + 1) k

-- the heap after Copy of each entry of a page, in order
unfoldable pub copy_page : HeapState → ℕ → HeapState
copy_page h page = copies_from h page 0 (length (of_page h.sides page))

-- the outcome of CopyPage
unfoldable pub copy_page_outcome : HeapState → ℕ → Outcome
copy_page_outcome h page = do
  _ ← refuse_if (is_idle h.phase) refusals.Phase
  _ ← crossed_if_protecting h
  _ ← refuse_if (not (is_from (state_at h.store page))) refusals.BadIndex
  Ok (copy_page h page, answers.CopiedPage (count_by is_uncopied (of_page h.sides page)))

-- releasing pages

-- the outcome of Release
unfoldable pub release_outcome : HeapState → ℕ → Outcome
release_outcome h page = do
  _ ← refuse_if (is_idle h.phase) refusals.Phase
  _ ← crossed_if_protecting h
  _ ← refuse_if (not (is_from (state_at h.store page))) refusals.BadIndex
  _ ← refuse_if (list_any is_uncopied (of_page h.sides page)) (refusals.Uncopied page)
  Ok (record h { store = with_released h.store page }, answers.Released (free_count (with_released h.store page)))
