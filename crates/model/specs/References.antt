-- References of objects, and globals.
use Rattle.std.specs.Prelude.{ℕ, ◌+◌, Option, Some, None, slice_get, if◌then◌else◌, Ok, nat_lt}
use Rattle.refword.specs.Words.{read_word, bits_of}
use Rattle.layout.specs.declared.shape.Layout.{Layout}
use Rattle.model.specs.declared.records.Global.{Global}
use Rattle.model.specs.declared.records.Place.{Place}
use Rattle.model.specs.declared.records.Place.TheVariants as places
use Rattle.model.specs.Stores.{with_word}
use Rattle.model.specs.declared.steps.Answer.TheVariants as answers
use Rattle.model.specs.declared.steps.Refusal.TheVariants as refusals
use Rattle.model.specs.Refusing.{◌>>=◌, or_refuse, Outcome}
use Rattle.model.specs.States.{Reference, HeapState, flat, change_at}
use Rattle.model.specs.Registers.{register_of, usable, usable_or_null}
use Rattle.model.specs.Data.{layout_at}

-- the reference that a number in memory represents; null if it is no reference
abbrev pub read_reference : ℕ → Reference
read_reference bits = flat (read_word bits)

-- the address of reference i of an object
abbrev pub field_address : ℕ → ℕ → ℕ
field_address address i = address + 1 + i

-- the address of reference i of the object at an address, if its layout exists and has such a reference
abbrev pub field_place : ℕ → ℕ → Option Layout → Option ℕ
field_place address i None = None
field_place address i (Some l) = if nat_lt i l.refs then Some (field_address address i) else None

-- the address of reference i of the object at an address, if it has such a reference
unfoldable pub field_at : HeapState → ℕ → ℕ → Option ℕ
field_at h address i = field_place address i (layout_at h address)

-- the reference in a global that may be missing
abbrev pub word_of_global : Option Global → Reference
word_of_global None = None
word_of_global (Some g) = g.word

-- the reference in a global; null if there is no such global
unfoldable pub global_of : HeapState → ℕ → Reference
global_of h g = word_of_global (slice_get h.globals g)

-- a global with another reference
abbrev pub set_word_of : Reference → Global → Global
set_word_of w g = record g { word = w }

-- the heap with another reference in a global
unfoldable pub with_global : HeapState → ℕ → Reference → HeapState
with_global h g w = record h { globals = change_at h.globals g (set_word_of w) }

-- the heap with another reference at the place of a load
abbrev pub with_place : HeapState → Place → Reference → HeapState
with_place h (places.Field address i) w = record h { store = with_word h.store (field_address address i) (bits_of w) }
with_place h (places.Global g) w = with_global h g w

-- the outcome of Store
unfoldable pub store_outcome : HeapState → ℕ → ℕ → ℕ → ℕ → Outcome
store_outcome h t object i source = do
  address ← usable h t object
  place ← or_refuse (field_at h address i) refusals.BadIndex
  _ ← usable_or_null h t source
  Ok (record h { store = with_word h.store place (bits_of (register_of h t source)) }, answers.Done)

-- the outcome of StoreGlobal
unfoldable pub store_global_outcome : HeapState → ℕ → ℕ → ℕ → Outcome
store_global_outcome h t global source = do
  _ ← usable_or_null h t source
  Ok (with_global h global (register_of h t source), answers.Done)
