-- The objects that registers name.
use Rattle.std.specs.Prelude.{ℕ, slice_get, Result, Ok}
use Rattle.layout.specs.Objects.{birth_of, layout_of}
use Rattle.model.specs.declared.steps.Refusal.{Refusal}
use Rattle.model.specs.declared.steps.Refusal.TheVariants as refusals
use Rattle.model.specs.Refusing.{◌>>=◌, or_refuse}
use Rattle.model.specs.Registers.{usable}
use Rattle.model.specs.States.{HeapState}
use Rattle.model.specs.Stores.{word_at}
use Rattle.collecting.specs.declared.seeing.Object.{Object}

-- the header of the object that register r of thread t names
unfoldable pub header_of : HeapState → ℕ → ℕ → Result ℕ Refusal
header_of h t r = do
  address ← usable h t r
  or_refuse (word_at h.store address) refusals.BadIndex

-- the object that register r of thread t names, by its header
unfoldable pub seen : HeapState → ℕ → ℕ → Result Object Refusal
seen h t r = do
  header ← header_of h t r
  layout ← or_refuse (slice_get h.config.layouts (layout_of header)) refusals.BadIndex
  Ok (record { birth = birth_of header; layout = layout_of header; refs = layout.refs; nums = layout.nums })
