-- Objects are marked, and whoever marks them makes them grey.
use Rattle.std.specs.Prelude.{◌≡◌, ℕ, Bool, true, false, Some, if◌then◌else◌}
use Rattle.model.specs.Bits.{bit_at, with_bit}
use Rattle.model.specs.States.{HeapState}
pub use Rattle.page_rows.specs.Bits.{bit_in}

-- the heap in which the object at an address is grey
unfoldable pub noted : HeapState → ℕ → HeapState
noted h a = record h { todo = with_bit h.todo h.store.words a true }

-- the heap after the object at an address is marked: it becomes grey, if it wasn't marked before
unfoldable pub marked_at : HeapState → ℕ → HeapState
marked_at h a = record h {
  mark = with_bit h.mark h.store.words a true;
  todo = if bit_at h.mark h.store.words a then h.todo else with_bit h.todo h.store.words a true;
}

-- the object at an address wasn't marked, and is now; only its grey bit is left to be set
pub record MarksFirst (h : HeapState) (a : ℕ) (g : HeapState) : Type 0 where
  pub fresh : bit_in h.mark h.store.words a ≡ Some false
  pub marked : g ≡ record h { mark = with_bit h.mark h.store.words a true }
  pub rest : noted g a ≡ marked_at h a

-- the object at an address is marked; true if this is the first time, and then its grey bit is left to be set
abbrev pub MarksApart : HeapState → ℕ → Bool → HeapState → Type 0
MarksApart h a false g = g ≡ marked_at h a
MarksApart h a true g = MarksFirst h a g
