-- Bytes of an object's data by one call.
use Rattle.std.specs.Prelude.{◌≡◌, ◌<◌, ◌+◌, ◌/◌, ◌%◌, ◌^◌, ℕ, zero, suc, Bool, true, false, List, length}
use Rattle.std.specs.Prelude.{Result, Ok, Err, slice_range}
use Rattle.std.specs.List.{flat_map}
use Rattle.byteorder.specs.Endian.{little_bytes}
use Rattle.model.specs.Owning.{Each}
use Rattle.model.specs.States.{HeapState}
use Rattle.model.specs.Stores.{StoreState, overlay}
use Rattle.model.specs.declared.steps.Refusal.{Refusal}
use Rattle.managed.specs.Runs.{Runs}
use Rattle.managed.specs.Data.{LacksDatum, LacksWord, ReadsEach, ReadsWords, set_entries, with_data}

-- the bytes of words, the lowest byte of each word first
abbrev pub bytes_of : List ℕ → List ℕ
bytes_of words = flat_map (little_bytes 8) words

-- numbers of 64 bits
abbrev pub AreWords : List ℕ → Type 0
AreWords words = Each words (λ v. v < 2 ^ 64)

-- how many words contain one of N bytes, from byte `skip` of the first word on
abbrev pub words_touched : ℕ → ℕ → ℕ
words_touched skip zero = 0
words_touched skip (suc more) = (skip + more) / 8 + 1

-- bytes are read from byte `at` of an object's data on: they are those of what Datum returns for their words; or one
-- of these words can't be read
abbrev pub EndsReadingBytes : ℕ → ℕ → ℕ → HeapState → Result Unit Refusal → List ℕ → Type 0
EndsReadingBytes t object at h (Ok u) bytes =
    (values : List ℕ) × (length values ≡ words_touched (at % 8) (length bytes)) × ReadsEach h t object (at / 8) values
    × (bytes ≡ slice_range (bytes_of values) (at % 8) (at % 8 + length bytes))
EndsReadingBytes t object at h (Err e) bytes =
    LacksDatum h t object (at / 8) (words_touched (at % 8) (length bytes)) e

-- bytes are written from byte `at` of an object's data on: each of their words is set to what Datum returns for it,
-- with these bytes written over its own; or nothing is done, as one of these words can't be read
abbrev pub EndsWritingBytes : ℕ → ℕ → ℕ → List ℕ → HeapState → Result Unit Refusal → HeapState → Type 0
EndsWritingBytes t object at bytes h (Ok u) g =
    (old new : List ℕ) × (length old ≡ words_touched (at % 8) (length bytes)) × ReadsEach h t object (at / 8) old
    × (bytes_of new ≡ overlay (bytes_of old) (at % 8) bytes) × AreWords new
    × Runs h (set_entries t object (at / 8) new) g
EndsWritingBytes t object at bytes h (Err e) g =
    (g ≡ h) × LacksDatum h t object (at / 8) (words_touched (at % 8) (length bytes)) e

-- bytes of `count` words of a store, from a place on, are read; or one of the words isn't there
abbrev pub ReadsRunBytes : StoreState → ℕ → ℕ → ℕ → List ℕ → Bool → Type 0
ReadsRunBytes s place count skip bytes true =
    (values : List ℕ) × ReadsWords s place count values
    × (bytes ≡ slice_range (bytes_of values) skip (skip + length bytes))
ReadsRunBytes s place count skip bytes false = LacksWord s place count

-- bytes of `count` words, from a place on, are written; or nothing is, as one of the words isn't there
abbrev pub WritesRunBytes : ℕ → ℕ → ℕ → List ℕ → HeapState → Bool → HeapState → Type 0
WritesRunBytes place count skip bytes h true g =
    (old new : List ℕ) × ReadsWords h.store place count old × (length new ≡ count)
    × (bytes_of new ≡ overlay (bytes_of old) skip bytes) × AreWords new × (g ≡ with_data h place new)
WritesRunBytes place count skip bytes h false g = (g ≡ h) × LacksWord h.store place count
