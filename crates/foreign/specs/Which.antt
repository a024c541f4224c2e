-- The codes of errors by which number names nothing.
use Rattle.std.specs.Prelude.{ℕ, ◌||◌, ◌&&◌, ◌^◌, Bool, false, List, length, Option, Some, None, slice_get}
use Rattle.std.specs.Prelude.{nat_le, nat_lt, if◌then◌else◌}
use Rattle.std.specs.List.{list_any}
use Rattle.layout.specs.declared.shape.Layout.{Layout}
use Rattle.layout.specs.Objects.{size_of}
use Rattle.model.specs.declared.steps.Step.{Step}
use Rattle.model.specs.declared.steps.Step.TheVariants as steps
use Rattle.model.specs.declared.steps.Refusal.{Refusal}
use Rattle.model.specs.declared.steps.Refusal.TheVariants as refusals
use Rattle.model.specs.Outcome.{no_register}
use Rattle.model.specs.States.{HeapState}
use Rattle.managed.specs.declared.batches.FieldLoad.{FieldLoad}
use Rattle.collecting.specs.declared.numbers.Number.{Number}
use Rattle.collecting.specs.declared.numbers.Number.TheVariants as numbers
use Rattle.collecting.specs.Numbers.{wrong_number}
use Rattle.foreign.specs.Codes.{OBJECT_TOO_LARGE, number_code, refusal_code, wrong_code}

-- the code of an error, whatever the heap is
abbrev pub plain_code : HeapState → Refusal → ℕ
plain_code h e = refusal_code e

-- the code of an error of a thread's step: for BadIndex, which number of the step names nothing
abbrev pub step_code : Step → HeapState → Refusal → ℕ
step_code s h refusals.BadIndex = wrong_code (wrong_number h s)
step_code s h e = refusal_code e

-- an object of a layout, if there is one, is larger than `words`
abbrev pub is_larger : ℕ → Option Layout → Bool
is_larger words None = false
is_larger words (Some l) = nat_lt words (size_of l)

-- the code of an error of making an object in buffers of `words`: for NoRoom, whether these are too small for it
abbrev pub make_code : ℕ → ℕ → ℕ → HeapState → Refusal → ℕ
make_code words target layout h refusals.NoRoom =
    if is_larger words (slice_get h.config.layouts layout) then OBJECT_TOO_LARGE else refusal_code refusals.NoRoom
make_code words target layout h e = step_code (steps.New target layout) h e

-- what a layout lacks for `refs` references and data words, if it is there
abbrev pub lacking : Option Layout → ℕ → Number
lacking None refs = numbers.Layout
lacking (Some l) refs = if nat_lt l.refs refs then numbers.Field else numbers.Datum

-- which number names nothing if an object is to be made and filled
abbrev pub fill_number : HeapState → ℕ → ℕ → List ℕ → Number
fill_number h target layout sources =
    if no_register h target || list_any (no_register h) sources then numbers.Register
    else lacking (slice_get h.config.layouts layout) (length sources)

-- the code of an error of making an object and filling it
abbrev pub fill_code : ℕ → ℕ → ℕ → List ℕ → HeapState → Refusal → ℕ
fill_code words target layout sources h refusals.BadIndex = number_code (fill_number h target layout sources)
fill_code words target layout sources h e = make_code words target layout h e

-- which number names nothing if data words of one object are to be copied to another
abbrev pub copy_data_number : HeapState → ℕ → ℕ → Number
copy_data_number h target source =
    if no_register h target || no_register h source then numbers.Register else numbers.Datum

-- the code of an error of copying data words of one object to another
abbrev pub copy_data_code : ℕ → ℕ → HeapState → Refusal → ℕ
copy_data_code target source h refusals.BadIndex = number_code (copy_data_number h target source)
copy_data_code target source h e = refusal_code e

-- the code of an error of one of several loads
abbrev pub load_code : ℕ → Option FieldLoad → HeapState → Refusal → ℕ
load_code object None h e = refusal_code e
load_code object (Some l) h e = step_code (steps.Load l.target object l.field) h e

-- a heap has no such thread
abbrev pub no_thread : HeapState → ℕ → Bool
no_thread h t = nat_le (length h.threads) t

-- which number names nothing if register r of thread t is looked up
abbrev pub register_number : HeapState → ℕ → Number
register_number h t = if no_thread h t then numbers.Thread else numbers.Register

-- the code of an error of looking up the object that register r of thread t names: none is there, or it is null
abbrev pub look_code : ℕ → ℕ → HeapState → Refusal → ℕ
look_code t r h refusals.Null =
    if no_thread h t || no_register h r then number_code (register_number h t) else refusal_code refusals.Null
look_code t r h e = refusal_code e

-- the code of an error of finding the place of the object that a register of thread t names
abbrev pub view_code : ℕ → HeapState → Refusal → ℕ
view_code t h refusals.BadIndex = number_code (register_number h t)
view_code t h e = refusal_code e

-- the code of an error of a lookup by a number of one kind
abbrev pub kind_code : Number → HeapState → Refusal → ℕ
kind_code n h refusals.BadIndex = number_code n
kind_code n h e = refusal_code e

-- an object may be at this place
abbrev pub is_place : ℕ → Bool
is_place place = nat_lt 0 place && nat_lt place (2 ^ 40)

-- kind_code for the object at a place: if none can be there, all that is known is that the place is wrong
abbrev pub place_code : Number → ℕ → HeapState → Refusal → ℕ
place_code n place h e = if is_place place then kind_code n h e else refusal_code e
