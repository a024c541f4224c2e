-- Several loads by one call.
use Rattle.std.specs.Prelude.{◌≡◌, ℕ, List, length, Option, Some, None, Result, Ok, Err, slice_get}
use Rattle.managed.specs.declared.batches.FieldLoad.{FieldLoad}
use Rattle.managed.specs.declared.batches.LoadsFault.{LoadsFault}
use Rattle.managed.specs.Batches.{EndsLoads}
use Rattle.foreign.specs.declared.held.Held.{Held}
use Rattle.model.specs.States.{HeapState}
use Rattle.foreign.specs.Codes.{NO_HEAP}
use Rattle.foreign.specs.Which.{load_code}

-- the code of the result of several loads of an object: that of the load which failed, on the heap then
abbrev pub code_of_loads : ℕ → List FieldLoad → HeapState → Result Unit LoadsFault → ℕ
code_of_loads object ls h (Ok u) = 0
code_of_loads object ls h (Err f) = load_code object (slice_get ls f.done) h f.refusal

-- how many of these loads are done
abbrev pub done_of_loads : List FieldLoad → Result Unit LoadsFault → ℕ
done_of_loads ls (Ok u) = length ls
done_of_loads ls (Err f) = f.done

-- if there is no heap, the code is NO_HEAP, and none is done; else the loads are done on it, as far as the code and
-- the count that is written for C say
abbrev pub LoadsEach : ℕ → ℕ → List FieldLoad → Option Held → ℕ → ℕ → Option Held → Type 0
LoadsEach t object ls None code done new = (code ≡ NO_HEAP) × (done ≡ 0) × (new ≡ None)
LoadsEach t object ls (Some h) code done new =
    (r : Result Unit LoadsFault) × (g : Held) × EndsLoads t object 0 ls h.heap r g.heap
    × (code ≡ code_of_loads object ls g.heap r) × (done ≡ done_of_loads ls r) × (new ≡ Some g)
