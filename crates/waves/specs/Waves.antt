-- References that are written, and notes that are taken in.
use Rattle.std.specs.Prelude.{ℕ, zero, suc, true, false, Bool, List, [], ◌∷◌, Option, Some, None, if◌then◌else◌}
use Rattle.refword.specs.Words.{bits_of}
use Rattle.model.specs.Bits.{bit_at, with_bit}
use Rattle.model.specs.Marks.{marked_word}
use Rattle.model.specs.References.{read_reference}
use Rattle.model.specs.States.{Reference, HeapState}
use Rattle.model.specs.Stores.{StoreState, with_word}

-- The bitmaps of marked and of grey objects, of pages of w words, after a note, which has the form of a reference: the
-- object at its address is marked; or its scan ends, if the bit is true.
abbrev pub noted_in : ℕ → List (List Bool) × List (List Bool) → Reference → List (List Bool) × List (List Bool)
noted_in w r None = r
noted_in w r (Some (a, true)) = (r.0, with_bit r.1 w a false)
noted_in w r (Some (a, false)) =
    (with_bit r.0 w a true, if bit_at r.0 w a then r.1 else with_bit r.1 w a true)

-- the bitmaps after some notes, one after the other
abbrev pub all_noted_in : ℕ → List (List Bool) × List (List Bool) → List Reference
    → List (List Bool) × List (List Bool)
all_noted_in w r [] = r
all_noted_in w r (n ∷ ns) = all_noted_in w (noted_in w r n) ns

-- the store after some references are written, each at an address, one after the other
abbrev pub all_written : StoreState → List (ℕ × Reference) → StoreState
all_written s [] = s
all_written s (v ∷ vs) = all_written (with_word s v.0 (bits_of v.1)) vs

-- the heap after these references are written, and these notes taken in
unfoldable pub applied : HeapState → List (ℕ × Reference) → List Reference → HeapState
applied h vs ns = record h {
  store = all_written h.store vs;
  mark = (all_noted_in h.store.words (h.mark, h.todo) ns).0;
  todo = (all_noted_in h.store.words (h.mark, h.todo) ns).1;
}

-- what the mark of a reference writes to its place, whose bits were read there, if there are any: nothing, if they
-- are 0
abbrev pub words_for : HeapState → ℕ → Option ℕ → List (ℕ × Reference)
words_for h place None = []
words_for h place (Some zero) = []
words_for h place (Some (suc b)) = (place, marked_word h (read_reference (suc b))) ∷ []

-- the note that the object of a reference is marked, if it names one
abbrev pub note_of : Reference → List Reference
note_of None = []
note_of (Some w) = Some (w.0, false) ∷ []

-- the notes of the mark of a reference
abbrev pub notes_for : HeapState → Option ℕ → List Reference
notes_for h None = []
notes_for h (Some zero) = []
notes_for h (Some (suc b)) = note_of (marked_word h (read_reference (suc b)))
