-- Objects that registers refer to, and addresses that these objects refer to, have places in pages and tables.
use Rattle.std.specs.Prelude.{◌≡◌, ◌≤◌, ◌+◌, ◌/◌, ◌%◌, ◌^◌, ℕ, List, length, Some, Ok, IfSome, slice_get}
use Rattle.layout.specs.declared.shape.Layout.{Layout}
use Rattle.layout.specs.Objects.{layout_of, size_of}
use Rattle.model.specs.References.{field_at}
use Rattle.model.specs.Registers.{register_of, usable}
use Rattle.model.specs.States.{HeapState}
use Rattle.model.specs.Stores.{StoreState, word_at, words_at}

-- the object at an address lies completely on a page that has memory: its header has one of these layouts' numbers,
-- and it ends within the page
pub record IsWhole (s : StoreState) (ls : List Layout) (a : ℕ) : Type 0 where
  pub words : List ℕ
  pub header : ℕ
  pub layout : Layout
  pub page : words_at s (a / s.words) ≡ Some words
  pub headed : slice_get words (a % s.words) ≡ Some header
  pub named : slice_get ls (layout_of header) ≡ Some layout
  pub ends : a % s.words + size_of layout ≤ length words

-- an address is on a page that has a record, or on page 0
abbrev pub IsRecorded : StoreState → ℕ → Type 0
IsRecorded s a = a / s.words ≤ length s.pages

-- the object that a register refers to lies completely on its page, if the register may be used; the address in a
-- register is on a page that has a record, as is an address in a reference of such an object
pub record AreWhole (h : HeapState) : Type 0 where
  pub whole : (t r a : ℕ) → usable h t r ≡ Ok a → IsWhole h.store h.config.layouts a
  pub registers : (t r : ℕ) → IfSome (register_of h t r) (λ v. IsRecorded h.store v.0)
  pub fields : (t r a i place bits : ℕ) → usable h t r ≡ Ok a → field_at h a i ≡ Some place
      → word_at h.store place ≡ Some bits → IsRecorded h.store (bits % 2 ^ 63)
