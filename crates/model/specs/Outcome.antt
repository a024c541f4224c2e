-- The effect of each step: the general tests, and then its own outcome.
use Rattle.std.specs.Prelude.{◌≡◌, ℕ, ◌==◌, Bool, true, false, length, Option, Some, None, slice_get, if◌then◌else◌}
use Rattle.std.specs.Prelude.{◌&&◌, ◌||◌, not, is_some, Result, Ok, Err, nat_lt, nat_le}
use Rattle.model.specs.declared.steps.Actor.{Actor}
use Rattle.model.specs.declared.steps.Actor.TheVariants.{Thread, Worker}
use Rattle.model.specs.declared.steps.Step.{Step}
use Rattle.model.specs.declared.steps.Step.TheVariants as steps
use Rattle.model.specs.declared.steps.Refusal.{Refusal}
use Rattle.model.specs.declared.steps.Refusal.TheVariants as refusals
use Rattle.model.specs.Refusing.{◌>>=◌, Outcome}
use Rattle.model.specs.States.{ThreadState, HeapState}
use Rattle.model.specs.Threads.{is_parked_in}
use Rattle.model.specs.Registers.{same_outcome, is_null_outcome, copy_register_outcome, clear_register_outcome}
use Rattle.model.specs.Data.{datum_outcome, set_datum_outcome}
use Rattle.model.specs.References.{store_outcome, store_global_outcome}
use Rattle.model.specs.Buffers.{take_outcome, give_back_outcome}
use Rattle.model.specs.Births.{new_outcome}
use Rattle.model.specs.Loads.{load_outcome, load_global_outcome, heal_outcome, finish_outcome}
use Rattle.model.specs.Checkpoints.{cross_outcome, cross_for_outcome, park_outcome, unpark_outcome}
use Rattle.model.specs.Scans.{pick_outcome, scan_field_outcome, scan_global_outcome}
use Rattle.model.specs.Cycles.{start_mark_outcome, end_mark_outcome}
use Rattle.model.specs.Protections.{are_bad_pages, no_page_in, protect_outcome}
use Rattle.model.specs.Emptying.{copy_outcome, copy_page_outcome, release_outcome}
use Rattle.model.specs.Traps.{trap_outcome, scrub_outcome}

-- a worker does such a step; threads do all others
abbrev pub is_for_workers : Step → Bool
is_for_workers steps.StartMark = true
is_for_workers (steps.Pick page offset) = true
is_for_workers steps.ScanField = true
is_for_workers (steps.ScanGlobal global) = true
is_for_workers steps.EndMark = true
is_for_workers (steps.Protect pages) = true
is_for_workers (steps.Copy page entry) = true
is_for_workers (steps.CopyPage page) = true
is_for_workers (steps.Release page) = true
is_for_workers (steps.CrossFor thread) = true
is_for_workers _ = false

-- a parked thread may do such a step
abbrev pub is_for_parked : Step → Bool
is_for_parked steps.Unpark = true
is_for_parked _ = false

-- a thread with an open barrier may do such a step
abbrev pub is_for_loading : Step → Bool
is_for_loading steps.Trap = true
is_for_loading steps.Heal = true
is_for_loading steps.Finish = true
is_for_loading _ = false

-- there is no such register
unfoldable pub no_register : HeapState → ℕ → Bool
no_register h r = nat_le h.config.registers r

-- there is no such global
unfoldable pub no_global : HeapState → ℕ → Bool
no_global h g = nat_le (length h.globals) g

-- there is no such page
unfoldable pub no_page : HeapState → ℕ → Bool
no_page h n = no_page_in h.store n

-- a number of the step is out of range
abbrev pub has_bad_index : HeapState → Step → Bool
has_bad_index h (steps.Take n) = (n == 0) || nat_lt h.store.words n
has_bad_index h (steps.New target layout) = no_register h target || nat_le (length h.config.layouts) layout
has_bad_index h (steps.Load target object field) = no_register h target || no_register h object
has_bad_index h (steps.LoadGlobal target global) = no_register h target || no_global h global
has_bad_index h (steps.Store object field source) = no_register h object || no_register h source
has_bad_index h (steps.StoreGlobal global source) = no_global h global || no_register h source
has_bad_index h (steps.Datum object index) = no_register h object
has_bad_index h (steps.SetDatum object index value) = no_register h object
has_bad_index h (steps.Same left right) = no_register h left || no_register h right
has_bad_index h (steps.IsNull r) = no_register h r
has_bad_index h (steps.CopyReg target source) = no_register h target || no_register h source
has_bad_index h (steps.ClearReg r) = no_register h r
has_bad_index h (steps.Scrub r) = no_register h r
has_bad_index h (steps.Pick page offset) = no_page h page
has_bad_index h (steps.ScanGlobal global) = no_global h global
has_bad_index h (steps.Protect pages) = are_bad_pages h pages
has_bad_index h (steps.Copy page entry) = no_page h page
has_bad_index h (steps.CopyPage page) = no_page h page
has_bad_index h (steps.Release page) = no_page h page
has_bad_index h (steps.CrossFor thread) = nat_le (length h.threads) thread
has_bad_index h _ = false

-- a thread, if it exists, has an open barrier
abbrev pub is_loading_in : Option ThreadState → Bool
is_loading_in None = false
is_loading_in (Some t) = is_some t.barrier

-- the general tests of a thread's step
unfoldable pub thread_gate : HeapState → ℕ → Step → Result Unit Refusal
thread_gate h t s =
    if nat_le (length h.threads) t || is_for_workers s then Err refusals.NoActor else
    (if has_bad_index h s then Err refusals.BadIndex else
    (if is_parked_in (slice_get h.threads t) && not (is_for_parked s) then Err refusals.Parked else
    (if is_loading_in (slice_get h.threads t) && not (is_for_loading s) then Err refusals.Busy else Ok tt)))

-- a thread's step passed the general tests
abbrev pub Passes : HeapState → ℕ → Step → Type 0
Passes h t s = thread_gate h t s ≡ Ok tt

-- the outcome of a thread's step that passed the general tests
abbrev pub thread_row : HeapState → ℕ → Step → Outcome
thread_row h t (steps.Take n) = take_outcome h t n
thread_row h t steps.GiveBack = give_back_outcome h t
thread_row h t (steps.New target layout) = new_outcome h t target layout
thread_row h t (steps.Load target object field) = load_outcome h t target object field
thread_row h t (steps.LoadGlobal target global) = load_global_outcome h t target global
thread_row h t steps.Trap = trap_outcome h t
thread_row h t steps.Heal = heal_outcome h t
thread_row h t steps.Finish = finish_outcome h t
thread_row h t (steps.Store object field source) = store_outcome h t object field source
thread_row h t (steps.StoreGlobal global source) = store_global_outcome h t global source
thread_row h t (steps.Datum object index) = datum_outcome h t object index
thread_row h t (steps.SetDatum object index value) = set_datum_outcome h t object index value
thread_row h t (steps.Same left right) = same_outcome h t left right
thread_row h t (steps.IsNull r) = is_null_outcome h t r
thread_row h t (steps.CopyReg target source) = copy_register_outcome h t target source
thread_row h t (steps.ClearReg target) = clear_register_outcome h t target
thread_row h t steps.Cross = cross_outcome h t
thread_row h t (steps.Scrub r) = scrub_outcome h t r
thread_row h t steps.Park = park_outcome h t
thread_row h t steps.Unpark = unpark_outcome h t
thread_row h t _ = Err refusals.NoActor

-- the general tests of a worker's step
unfoldable pub worker_gate : HeapState → ℕ → Step → Result Unit Refusal
worker_gate h w s =
    if nat_le (length h.workers) w || not (is_for_workers s) then Err refusals.NoActor else
    (if has_bad_index h s then Err refusals.BadIndex else Ok tt)

-- a worker's step passed the general tests
abbrev pub WorkerPasses : HeapState → ℕ → Step → Type 0
WorkerPasses h w s = worker_gate h w s ≡ Ok tt

-- the outcome of a worker's step that passed the general tests
abbrev pub worker_row : HeapState → ℕ → Step → Outcome
worker_row h w steps.StartMark = start_mark_outcome h
worker_row h w (steps.Pick page offset) = pick_outcome h w page offset
worker_row h w steps.ScanField = scan_field_outcome h w
worker_row h w (steps.ScanGlobal global) = scan_global_outcome h global
worker_row h w steps.EndMark = end_mark_outcome h
worker_row h w (steps.Protect pages) = protect_outcome h pages
worker_row h w (steps.Copy page entry) = copy_outcome h page entry
worker_row h w (steps.CopyPage page) = copy_page_outcome h page
worker_row h w (steps.Release page) = release_outcome h page
worker_row h w (steps.CrossFor thread) = cross_for_outcome h thread
worker_row h w _ = Err refusals.NoActor

-- the outcome of a step
unfoldable pub outcome : HeapState → Actor → Step → Outcome
outcome h (Thread t) s = do
  _ ← thread_gate h t s
  thread_row h t s
outcome h (Worker w) s = do
  _ ← worker_gate h w s
  worker_row h w s
