-- Objects that were found, on which steps are done at once.
use Rattle.std.specs.Prelude.{◌≡◌, ◌≤◌, ◌+◌, ◌%◌, ℕ, Some}
use Rattle.layout.specs.Objects.{size_of}
use Rattle.model.specs.Data.{layout_at}
use Rattle.model.specs.States.{HeapState}
use Rattle.heap.specs.AtOnce.{IsOnFrame}
use Rattle.fast_paths.specs.AtOnce.{UsesAtOnce}
use Rattle.fast_paths.specs.declared.found.FoundObject.{FoundObject}

-- thread t may use the object that register r names: it is at this place, has this layout, and ends within its page
pub record FindsObject (h : HeapState) (t r : ℕ) (o : FoundObject) : Type 0 where
  pub uses : UsesAtOnce h t r o.address
  pub frame : IsOnFrame h o.address o.frame
  pub layout : layout_at h o.address ≡ Some o.layout
  pub ends : o.address % h.store.words + size_of o.layout ≤ h.store.words
