-- Several data words of an object by one call.
use Rattle.std.specs.Prelude.{◌≡◌, ◌<◌, ◌≤◌, ◌+◌, ◌^◌, ℕ, Bool, true, false, List, [], ◌∷◌, length, Some, None}
use Rattle.std.specs.Prelude.{Result, Ok, Err, slice_get, ◌⊎◌}
use Rattle.layout.specs.declared.shape.Layout.{Layout}
use Rattle.model.specs.Data.{layout_at}
use Rattle.model.specs.Outcome.{outcome, Passes}
use Rattle.model.specs.Registers.{usable}
use Rattle.model.specs.States.{HeapState}
use Rattle.model.specs.Stores.{StoreState, with_word, word_at}
use Rattle.model.specs.declared.steps.Actor.TheVariants.{Thread}
use Rattle.model.specs.declared.steps.Answer.TheVariants as answers
use Rattle.model.specs.declared.steps.Refusal.{Refusal}
use Rattle.model.specs.declared.steps.Refusal.TheVariants as refusals
use Rattle.model.specs.declared.steps.Step.TheVariants as steps
use Rattle.entries.specs.declared.entry.Entry.{Entry}
use Rattle.managed.specs.Goings.{entry}
use Rattle.managed.specs.Runs.{Runs}
use Rattle.managed.specs.declared.data.Run.{Run}

-- each of these values is what Datum returns, for the data words of an object from word j on
abbrev pub ReadsEach : HeapState → ℕ → ℕ → ℕ → List ℕ → Type 0
ReadsEach h t object j values = (i v : ℕ) → slice_get values i ≡ Some v
    → outcome h (Thread t) (steps.Datum object (j + i)) ≡ Ok (h, answers.Datum v)

-- one of `count` data words from word j on can't be read, for reason e
abbrev pub LacksDatum : HeapState → ℕ → ℕ → ℕ → ℕ → Refusal → Type 0
LacksDatum h t object j count e = (i : ℕ) × (i < count) × (outcome h (Thread t) (steps.Datum object (j + i)) ≡ Err e)

-- data words are read, from word j on; or one of them can't be
abbrev pub EndsReading : ℕ → ℕ → ℕ → HeapState → Result Unit Refusal → List ℕ → Type 0
EndsReading t object j h (Ok u) values = ReadsEach h t object j values
EndsReading t object j h (Err e) values = LacksDatum h t object j (length values) e

-- the accepted steps that write data words, from word j on
abbrev pub set_entries : ℕ → ℕ → ℕ → List ℕ → List Entry
set_entries t object j [] = []
set_entries t object j (v ∷ vs) =
    entry (Thread t) (steps.SetDatum object j v) answers.Done ∷ set_entries t object (j + 1) vs

-- data words are written, from word j on; or one of them can't be, and nothing is
abbrev pub EndsWriting : ℕ → ℕ → ℕ → List ℕ → HeapState → Result Unit Refusal → HeapState → Type 0
EndsWriting t object j values h (Ok u) g = Runs h (set_entries t object j values) g
EndsWriting t object j values h (Err e) g = (g ≡ h) × (i : ℕ) × (i < length values)
    × ((v : ℕ) → outcome h (Thread t) (steps.SetDatum object (j + i) v) ≡ Err e)

-- one of `count` data words from word j on can't be written, for reason e, whatever the value
abbrev pub LacksSetting : HeapState → ℕ → ℕ → ℕ → ℕ → Refusal → Type 0
LacksSetting h t object j count e = (i : ℕ) × (i < count)
    × ((v : ℕ) → outcome h (Thread t) (steps.SetDatum object (j + i) v) ≡ Err e)

-- data words of the source, from word i on, are read, and then written to the target, from word j on; or nothing is
-- done, as one of them can't be read, or all can be and one can't be written
abbrev pub EndsCopying : ℕ → ℕ → ℕ → ℕ → ℕ → ℕ → HeapState → Result Unit Refusal → HeapState → Type 0
EndsCopying t target j source i count h (Ok u) g =
    (values : List ℕ) × (length values ≡ count) × ReadsEach h t source i values
    × Runs h (set_entries t target j values) g
EndsCopying t target j source i count h (Err e) g = (g ≡ h)
    × (LacksDatum h t source i count e
    ⊎ ((values : List ℕ) × (length values ≡ count) × ReadsEach h t source i values × LacksSetting h t target j count e))

-- `count` data words from word j on, which thread t may read and write, are where a run has them
pub record IsRun (h : HeapState) (t object j count : ℕ) (r : Run) : Type 0 where
  pub gate : Passes h t (steps.Datum object j)
  pub usable : usable h t object ≡ Ok r.address
  pub shape : Layout
  pub at : layout_at h r.address ≡ Some shape
  pub fits : j + count ≤ shape.nums
  pub ahead : r.ahead ≡ 1 + shape.refs + j
  pub near : r.ahead + count < 2 ^ 17

-- one of `count` data words from word j on can be neither read nor written, for reason e
abbrev pub LacksRun : HeapState → ℕ → ℕ → ℕ → ℕ → Refusal → Type 0
LacksRun h t object j count e = (i : ℕ) × (i < count)
    × (outcome h (Thread t) (steps.Datum object (j + i)) ≡ Err e)
    × ((v : ℕ) → outcome h (Thread t) (steps.SetDatum object (j + i) v) ≡ Err e)

-- the heap with other consecutive words from a place on
abbrev pub with_data : HeapState → ℕ → List ℕ → HeapState
with_data h place [] = h
with_data h place (v ∷ vs) = with_data (record h { store = with_word h.store place v }) (place + 1) vs

-- the words of a store from a place on are these; or one of them isn't there
abbrev pub ReadsRun : StoreState → ℕ → List ℕ → Bool → Type 0
ReadsRun s place values true = (i v : ℕ) → slice_get values i ≡ Some v → word_at s (place + i) ≡ Some v
ReadsRun s place values false = (i : ℕ) × (i < length values) × (word_at s (place + i) ≡ None)

-- one of `count` words of a store from a place on isn't there
abbrev pub LacksWord : StoreState → ℕ → ℕ → Type 0
LacksWord s place count = (i : ℕ) × (i < count) × (word_at s (place + i) ≡ None)

-- `count` words of a store from a place on
abbrev pub ReadsWords : StoreState → ℕ → ℕ → List ℕ → Type 0
ReadsWords s place count values = (length values ≡ count) × ReadsRun s place values true

-- `count` words, from a place on, are read and then written to an object, from word j on; or nothing is done
abbrev pub CopiesRun : ℕ → ℕ → ℕ → ℕ → ℕ → HeapState → Result Unit Refusal → HeapState → Type 0
CopiesRun t target j place count h (Ok u) g =
    (values : List ℕ) × ReadsWords h.store place count values
    × (to : Run) × IsRun h t target j count to × (g ≡ with_data h (to.address + to.ahead) values)
CopiesRun t target j place count h (Err e) g = (g ≡ h)
    × (((e ≡ refusals.BadIndex) × LacksWord h.store place count)
    ⊎ ((values : List ℕ) × ReadsWords h.store place count values × LacksRun h t target j count e))
