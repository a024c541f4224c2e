-- New objects that are filled.
use Rattle.std.specs.Prelude.{◌≡◌, ◌⊎◌, ℕ, List, Result, Ok, Err}
use Rattle.model.specs.declared.steps.Refusal.{Refusal}
use Rattle.model.specs.States.{HeapState}
use Rattle.managed.specs.Batches.{EndsFilling, fill_steps, fill_test}
use Rattle.collecting.specs.Rooms.{EndsMaking, MakingStands}

-- thread t makes an object, for which the heap is collected if there is no space; and if the heap represents a
-- reference model, it does after that
abbrev pub Makes : ℕ → ℕ → ℕ → ℕ → ℕ → HeapState → Result ℕ Refusal → HeapState → Type 0
Makes t words percent target layout h r g =
    EndsMaking t words percent target layout h r g × MakingStands t target layout h r g

-- the object is made and filled; or it isn't made; or it is made, and a step that fills it is rejected with e
abbrev pub MakesAndFills : ℕ → ℕ → ℕ → ℕ → ℕ → List ℕ → List ℕ → HeapState → Result ℕ Refusal → HeapState → Type 0
MakesAndFills t words percent target layout sources nums h (Ok b) g =
    (m : HeapState) × Makes t words percent target layout h (Ok b) m
    × EndsFilling t (fill_steps target sources nums) m (Ok tt) g
MakesAndFills t words percent target layout sources nums h (Err e) g =
    Makes t words percent target layout h (Err e) g
    ⊎ ((m : HeapState) × (b : ℕ) × Makes t words percent target layout h (Ok b) m
    × EndsFilling t (fill_steps target sources nums) m (Err e) g)

-- P, if the object can be filled; else the test's error, and nothing is done
abbrev pub AfterTest : Result Unit Refusal → (HeapState → Result ℕ Refusal → HeapState → Type 0) → HeapState
    → Result ℕ Refusal → HeapState → Type 0
AfterTest (Ok u) P h r g = P h r g
AfterTest (Err e) P h r g = (r ≡ Err e) × (g ≡ h)

abbrev pub EndsMakingWith : ℕ → ℕ → ℕ → ℕ → ℕ → List ℕ → List ℕ → HeapState → Result ℕ Refusal → HeapState → Type 0
EndsMakingWith t words percent target layout sources nums h r g =
    AfterTest (fill_test h t target layout sources nums)
    (MakesAndFills t words percent target layout sources nums) h r g
