-- What scans read of a heap, apart from the pages that they change.
use Rattle.std.specs.Prelude.{ℕ, ◌/◌, ◌%◌, Bool, List, Option, None, Some}
use Rattle.layout.specs.declared.shape.Layout.{Layout}
use Rattle.model.specs.declared.records.Forwarding.{Forwarding}
use Rattle.model.specs.Bits.{of_page}
use Rattle.model.specs.Data.{header_layout, layout_in}
use Rattle.model.specs.Marks.{entry_of, forward_by}
use Rattle.model.specs.States.{Reference, HeapState}

-- the words of a page, the clean NMT value, the forwarding tables, and the layouts of objects
pub record SceneState : Type 0 where
  pub words : ℕ
  pub nmt : Bool
  pub sides : List (List Forwarding)
  pub layouts : List Layout

-- that of a heap
abbrev pub scene_of : HeapState → SceneState
scene_of h = record { words = h.store.words; nmt = h.nmt; sides = h.sides; layouts = h.config.layouts }

-- the current address of an object
unfoldable pub resolved : SceneState → ℕ → ℕ
resolved s a = forward_by (entry_of (of_page s.sides (a / s.words)) (a % s.words)) a

-- the reference that marking leaves
unfoldable pub marked_in : SceneState → Reference → Reference
marked_in s None = None
marked_in s (Some w) = Some (resolved s w.0, s.nmt)

-- how many references an object of a layout has, none if it has no layout
abbrev pub refs_in : Option Layout → ℕ
refs_in None = 0
refs_in (Some l) = l.refs

-- how many references an object has, by its header
unfoldable pub refs_of : SceneState → Option ℕ → ℕ
refs_of s header = refs_in (layout_in s.layouts (header_layout header))
