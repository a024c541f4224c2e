-- The effect of a call, by the handle's contents before it and after it.
use Rattle.std.proofs.Common.{◌≡◌, ℕ, Bool, true, false, List, Option, Some, refl, subst}
use Rattle.std.specs.Prelude.{Result, Ok, MatchResult}
use Rattle.model.specs.declared.steps.Refusal.{Refusal}
use Rattle.model.specs.declared.steps.Step.{Step}
use Rattle.model.specs.declared.steps.Step.TheVariants as steps
use Rattle.model.specs.declared.steps.Answer.TheVariants as answers
use Rattle.model.specs.Saying.{done}
use Rattle.fast_paths.specs.AtOnce.{GivesDatum}
use Rattle.managed.specs.Found.{MayStep}
use Rattle.model.specs.declared.steps.Answer.{Answer}
use Rattle.cycle.specs.Mutating.{DoesThread, ThreadStands}
use Rattle.managed.specs.declared.batches.FieldLoad.{FieldLoad}
use Rattle.managed.specs.declared.batches.LoadsFault.{LoadsFault}
use Rattle.managed.specs.Batches.{EndsLoads}
use Rattle.managed.specs.Goings.{LoadsWhole, LoadStands, MayLoadWhole}
use Rattle.model.specs.States.{HeapState}
use Rattle.foreign.specs.declared.held.Held.{Held}
use Rattle.foreign.specs.Batches.{LoadsEach, code_of_loads, done_of_loads}
use Rattle.foreign.specs.Codes.{code_by}
use Rattle.foreign.specs.Which.{step_code}
use Rattle.foreign.specs.Calls.{Calls, CallsLoad, CallsStep, CodedBy, Gives, GivesStep, Loaded, OnHeld}
use Rattle.foreign.specs.Calls.{OnHeldOr, Stepped}
use Rattle.foreign.specs.Lending.{replaced}
use Rattle.foreign.specs.Looking.{Keeps}

-- the contents of a handle that has a heap
there : (Q : Option Held → Option Held → Type 0) (b g : Held) (old new : Option Held) → Some b ≡ old
    → new ≡ replaced old g → (new ≡ Some g → Q (Some b) new) → Q old new
there Q b g old new was is k =
    subst (λ (o : Option Held). new ≡ replaced o g → Q o new) was k is

-- a call on a handle's contents, by its effect on them
pub on_held : (P : Held → ℕ → Held → Type 0) (b : Held) (old : Option Held) (code : ℕ) (g : Held) (new : Option Held)
    → Some b ≡ old → P b code g → new ≡ replaced old g → OnHeld P old code new
on_held P b old code g new was did is =
    there (λ o n. OnHeld P o code n) b g old new was is (λ same. (g, did, same))

pub on_held_or : (S : Type 0) (P : Held → ℕ → Held → Type 0) (b : Held) (old : Option Held) (code : ℕ) (g : Held)
    (new : Option Held) → Some b ≡ old → P b code g → new ≡ replaced old g → OnHeldOr S P old code new
on_held_or S P b old code g new was did is =
    there (λ o n. OnHeldOr S P o code n) b g old new was is (λ same. (g, did, same))

-- a call on a heap
pub called : {A : Type 0} (C : HeapState → Refusal → ℕ) (P : HeapState → Result A Refusal → HeapState → Type 0)
    (b : Held) (old : Option Held) (r : Result A Refusal) (code : ℕ) (g : Held) (new : Option Held)
    → Some b ≡ old → P b.heap r g.heap → code ≡ code_by (C g.heap) r → new ≡ replaced old g → Calls C P old code new
called C P b old r code g new was did says is = on_held (CodedBy C P) b old code g new was (r, did, says) is

-- the same with a result that is written for C
pub given : {A : Type 0} (C : HeapState → Refusal → ℕ) (P : HeapState → Result A Refusal → HeapState → Type 0)
    (Q : A → Type 0) (S : Type 0) (b : Held) (old : Option Held) (r : Result A Refusal) (code : ℕ) (g : Held)
    (new : Option Held)
    → Some b ≡ old → P b.heap r g.heap → MatchResult r Q (λ _. S) → code ≡ code_by (C g.heap) r → new ≡ replaced old g
    → Gives C P Q S old code new
given C P Q S b old r code g new was did gave says is =
    there (λ o n. Gives C P Q S o code n) b g old new was is (λ same. (r, g, did, gave, says, same))

-- a step of thread t
pub stepped : {A : Type 0} (answer : A → Answer) (t : ℕ) (step : Step) (b : Held) (old : Option Held)
    (r : Result A Refusal) (code : ℕ) (g : Held) (new : Option Held)
    → Some b ≡ old → DoesThread answer b.heap t step r g.heap → ThreadStands answer b.heap t step r g.heap
    → code ≡ code_by (step_code step g.heap) r → new ≡ replaced old g → CallsStep answer t step old code new
stepped answer t step b old r code g new was does stands says is =
    called (step_code step) (Stepped answer t step) b old r code g new was (does, stands) says is

-- a read by a step of thread t
pub looked : {A : Type 0} (answer : A → Answer) (t : ℕ) (step : Step) (Q : A → Type 0) (S : Type 0) (b : Held)
    (old : Option Held) (r : Result A Refusal) (code : ℕ) (new : Option Held)
    → Some b ≡ old → DoesThread answer b.heap t step r b.heap → ThreadStands answer b.heap t step r b.heap
    → MatchResult r Q (λ _. S) → code ≡ code_by (step_code step b.heap) r → new ≡ replaced old b
    → GivesStep answer t step Q S old code new
looked answer t step Q S b old r code new was does stands gave says is =
    given (step_code step) (Stepped answer t step) Q S b old r code b new was (does, stands) gave says is

-- a complete load
pub loaded : (t : ℕ) (begin : Step) (b : Held) (old : Option Held) (r : Result Unit Refusal) (code : ℕ) (g : Held)
    (new : Option Held)
    → Some b ≡ old → LoadsWhole b.heap t begin r g.heap → LoadStands b.heap t begin r g.heap
    → code ≡ code_by (step_code begin g.heap) r → new ≡ replaced old g → CallsLoad t begin old code new
loaded t begin b old r code g new was loads stands says is =
    called (step_code begin) (Loaded t begin) b old r code g new was (loads, stands) says is

-- a load in one go
pub loaded_in_one : (t : ℕ) (begin : Step) (b : Held) (old : Option Held) (is_done : Bool) (g : Held)
    (new : Option Held) → Some b ≡ old → MayLoadWhole is_done b.heap t begin g.heap → is_done ≡ true
    → new ≡ replaced old g → CallsLoad t begin old 0 new
loaded_in_one t begin b old true g new was may it is =
    loaded t begin b old (Ok tt) 0 g new was may.0 may.1 refl is
loaded_in_one t begin b old false g new was may it is = absurd (cc)

-- a step in one go
pub stepped_in_one : (t : ℕ) (step : Step) (b : Held) (old : Option Held) (is_done : Bool) (g : Held)
    (new : Option Held) → Some b ≡ old → MayStep is_done b.heap t step g.heap → is_done ≡ true
    → new ≡ replaced old g → CallsStep done t step old 0 new
stepped_in_one t step b old true g new was may it is =
    stepped done t step b old (Ok tt) 0 g new was may.0 may.1 refl is
stepped_in_one t step b old false g new was may it is = absurd (cc)

-- a datum that is read in one go
pub datum_in_one : (t object j value : ℕ) (S : Type 0) (b : Held) (old new : Option Held) → Some b ≡ old
    → GivesDatum b.heap t object j value
    → ThreadStands answers.Datum b.heap t (steps.Datum object j) (Ok value) b.heap → new ≡ replaced old b
    → GivesStep answers.Datum t (steps.Datum object j) (λ x. value ≡ x) S old 0 new
datum_in_one t object j value S b old new was gives stands is =
    looked answers.Datum t (steps.Datum object j) (λ x. value ≡ x) S b old (Ok value) 0 new was gives stands refl refl
    is

-- several loads
pub loaded_each : (t object : ℕ) (ls : List FieldLoad) (b : Held) (old : Option Held) (r : Result Unit LoadsFault)
    (code done : ℕ) (g : Held) (new : Option Held)
    → Some b ≡ old → EndsLoads t object 0 ls b.heap r g.heap → code ≡ code_of_loads object ls g.heap r
    → done ≡ done_of_loads ls r → new ≡ replaced old g → LoadsEach t object ls old code done new
loaded_each t object ls b old r code done g new was loads says many is =
    there (λ o n. LoadsEach t object ls o code done n) b g old new was is (λ same. (r, g, loads, says, many, same))

-- the same for a call that leaves the heap as it is
pub kept : (b : Held) (old : Option Held) (code : ℕ) (g : Held) (new : Option Held) → Some b ≡ old → g.heap ≡ b.heap
    → g.parts ≡ b.parts → code ≡ 0 → new ≡ replaced old g → Keeps old code new
kept b old code g new was heap parts done is =
    there (λ o n. Keeps o code n) b g old new was is (λ same. (g, heap, parts, done, same))
