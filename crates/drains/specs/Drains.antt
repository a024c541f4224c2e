-- Mark drains: many scanning steps of a worker at once.
use Rattle.std.specs.Prelude.{◌≡◌, ℕ, zero, suc, ◌+◌, ◌<◌, true, false, Bool, List, [], ◌∷◌, Option, Some, None, Ok}
use Rattle.std.specs.Prelude.{slice_get, if◌then◌else◌, is_ok}
use Rattle.std.specs.List.{list_all}
use Rattle.forward.specs.Counts.{uncopied_count}
use Rattle.layout.specs.declared.shape.Layout.{Layout}
use Rattle.model.specs.declared.steps.Actor.TheVariants.{Worker}
use Rattle.model.specs.declared.steps.Step.{Step}
use Rattle.model.specs.declared.steps.Step.TheVariants as steps
use Rattle.model.specs.Bits.{with_bit}
use Rattle.model.specs.Data.{layout_at}
use Rattle.model.specs.Emptying.{heap_after}
use Rattle.model.specs.Holding.{IsHeap}
use Rattle.model.specs.Outcome.{outcome}
use Rattle.model.specs.Owning.{IsStore}
use Rattle.model.specs.Plain.{PlainHeap}
use Rattle.model.specs.References.{field_address, global_of}
use Rattle.model.specs.Scans.{reference_in, with_marked_place, may_scan, is_todo_in, with_marked_global}
use Rattle.model.specs.States.{HeapState}
use Rattle.model.specs.Stores.{word_at}
use Rattle.refinement.specs.Standing.{Holds}

-- drains

-- a step that a drain makes
abbrev pub drains : Step → Bool
drains steps.ScanField = true
drains (steps.ScanGlobal global) = true
drains (steps.Pick page offset) = true
drains _ = false

-- a step that picks an object
abbrev pub is_pick : Step → Bool
is_pick (steps.Pick page offset) = true
is_pick _ = false

-- how many objects steps pick
abbrev pub picks : List Step → ℕ
picks [] = 0
picks (s ∷ ss) = if is_pick s then suc (picks ss) else picks ss

-- the heap after steps of a worker, one after the other; a rejected one would leave it as it was
abbrev pub after_steps : HeapState → ℕ → List Step → HeapState
after_steps h w [] = h
after_steps h w (s ∷ ss) = after_steps (heap_after h (outcome h (Worker w) s)) w ss

-- each of some steps of a worker is accepted, and the heap before each has its invariants
abbrev pub AreInOrder : HeapState → ℕ → List Step → Type 0
AreInOrder h w [] = Unit {0}
AreInOrder h w (s ∷ ss) =
    IsStore h.store × IsHeap h × (is_ok (outcome h (Worker w) s) ≡ true)
    × AreInOrder (heap_after h (outcome h (Worker w) s)) w ss

-- a heap was drained by a worker, completely or in part: some accepted steps of a drain lead to it, which pick n
-- objects
pub record IsDrained (h : HeapState) (w n : ℕ) (g : HeapState) : Type 0 where
  pub steps : List Step
  pub only : list_all drains steps ≡ true
  pub count : picks steps ≡ n
  pub order : AreInOrder h w steps
  pub done : g ≡ after_steps h w steps

-- a heap that represents a reference model still represents it when it is drained: a drain doesn't change the model
abbrev pub KeepsPlain : HeapState → HeapState → Type 0
KeepsPlain h g = (p p0 : PlainHeap) → Holds h p p0 → Holds g p p0

-- ScanField, k times
abbrev pub field_steps : ℕ → List Step
field_steps zero = []
field_steps (suc k) = steps.ScanField ∷ field_steps k

-- an object of `refs` references is picked and scanned
abbrev pub object_steps : ℕ → ℕ → ℕ → List Step
object_steps page offset refs = steps.Pick page offset ∷ field_steps (suc refs)

-- a worker may scan objects completely: a mark runs that all threads have crossed, nothing is left to be copied, and
-- the worker exists and has no object
pub record IsReady (h : HeapState) (w : ℕ) : Type 0 where
  pub scan : may_scan h ≡ Ok tt
  pub none : uncopied_count h.sides ≡ 0
  pub worker : slice_get h.workers w ≡ Some None

-- a heap was drained so, and the worker may go on
pub record HasDrained (h : HeapState) (w n : ℕ) (g : HeapState) : Type 0 where
  pub drained : IsDrained h w n g
  pub ready : IsReady g w

-- the same, and its globals stay
pub record ObjectsDone (h : HeapState) (w n : ℕ) (g : HeapState) : Type 0 where
  pub drained : HasDrained h w n g
  pub globals : g.globals ≡ h.globals

-- none of the first n globals is grey
abbrev pub NoneTodo : HeapState → ℕ → Type 0
NoneTodo h n = (i : ℕ) → i < n → is_todo_in (slice_get h.globals i) ≡ false

-- the edits that are made at once

-- how many references an object of a layout has, none if it has no layout
abbrev pub refs_in : Option Layout → ℕ
refs_in None = 0
refs_in (Some l) = l.refs

-- how many references the object at an address has
unfoldable pub refs_at : HeapState → ℕ → ℕ
refs_at h a = refs_in (layout_at h a)

-- the heap after a global is marked, if it is grey; nothing is left to be copied
unfoldable pub with_global_done : HeapState → ℕ → HeapState
with_global_done h n =
    if is_todo_in (slice_get h.globals n) then with_marked_global h n (global_of h n) else h

-- the heap after the word at a place in memory is marked and written back; nothing is left to be copied
unfoldable pub marked_field : HeapState → ℕ → HeapState
marked_field h place = with_marked_place h place (reference_in (word_at h.store place))

-- the same of k references of the object at an address, from number i on
abbrev pub marked_fields : HeapState → ℕ → ℕ → ℕ → HeapState
marked_fields h a i zero = h
marked_fields h a i (suc k) = marked_fields (marked_field h (field_address a i)) a (i + 1) k

-- the heap in which the object at an address is no longer grey
unfoldable pub without_todo : HeapState → ℕ → HeapState
without_todo h a = record h { todo = with_bit h.todo h.store.words a false }

-- the heap after the object at an address is scanned completely; nothing is left to be copied
unfoldable pub scanned : HeapState → ℕ → HeapState
scanned h a = without_todo (marked_fields h a 0 (refs_at h a)) a
