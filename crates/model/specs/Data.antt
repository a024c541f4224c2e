-- Data of objects, and the layouts by which they are found.
use Rattle.std.specs.Prelude.{ℕ, ◌+◌, List, Option, Some, None, slice_get, if◌then◌else◌, Ok, nat_lt}
use Rattle.layout.specs.declared.shape.Layout.{Layout}
use Rattle.layout.specs.Objects.{layout_of}
use Rattle.model.specs.Stores.{word_at, with_word}
use Rattle.model.specs.declared.steps.Answer.TheVariants as answers
use Rattle.model.specs.declared.steps.Refusal.TheVariants as refusals
use Rattle.model.specs.Refusing.{◌>>=◌, or_refuse, Outcome}
use Rattle.model.specs.States.{HeapState}
use Rattle.model.specs.Registers.{usable}

-- the layout of a number that may be missing
abbrev pub layout_in : List Layout → Option ℕ → Option Layout
layout_in layouts None = None
layout_in layouts (Some l) = slice_get layouts l

-- the layout's number in a header that may be missing
abbrev pub header_layout : Option ℕ → Option ℕ
header_layout None = None
header_layout (Some bits) = Some (layout_of bits)

-- the layout of the object at an address
unfoldable pub layout_at : HeapState → ℕ → Option Layout
layout_at h address = layout_in h.config.layouts (header_layout (word_at h.store address))

-- the address of data word j of an object
abbrev pub datum_address : ℕ → Layout → ℕ → ℕ
datum_address address l j = address + 1 + l.refs + j

-- the address of data word j of the object at an address, if its layout exists and has such a word
abbrev pub datum_place : ℕ → ℕ → Option Layout → Option ℕ
datum_place address j None = None
datum_place address j (Some l) = if nat_lt j l.nums then Some (datum_address address l j) else None

-- the address of data word j of the object at an address, if it has such a word
unfoldable pub datum_at : HeapState → ℕ → ℕ → Option ℕ
datum_at h address j = datum_place address j (layout_at h address)

-- the outcome of Datum
unfoldable pub datum_outcome : HeapState → ℕ → ℕ → ℕ → Outcome
datum_outcome h t object j = do
  address ← usable h t object
  place ← or_refuse (datum_at h address j) refusals.BadIndex
  value ← or_refuse (word_at h.store place) refusals.BadIndex
  Ok (h, answers.Datum value)

-- the outcome of SetDatum
unfoldable pub set_datum_outcome : HeapState → ℕ → ℕ → ℕ → ℕ → Outcome
set_datum_outcome h t object j value = do
  address ← usable h t object
  place ← or_refuse (datum_at h address j) refusals.BadIndex
  Ok (record h { store = with_word h.store place value }, answers.Done)
