-- The effect of a call on the heap of a handle.
use Rattle.std.specs.Prelude.{◌≡◌, ℕ, Bool, false, List, Option, Some, None, Result, IfOk, MatchResult}
use Rattle.model.specs.declared.records.Buffer.{Buffer}
use Rattle.model.specs.declared.steps.Step.{Step}
use Rattle.model.specs.declared.steps.Answer.{Answer}
use Rattle.model.specs.declared.steps.Refusal.{Refusal}
use Rattle.model.specs.Phases.{is_protect_crossing}
use Rattle.model.specs.States.{HeapState}
use Rattle.cycle.specs.Mutating.{DoesThread, ThreadStands}
use Rattle.collecting.specs.declared.collecting.Collected.{Collected}
use Rattle.collecting.specs.declared.seeing.Object.{Object}
use Rattle.collecting.specs.Collections.{Collects, EndsCollecting, IsNotRoom}
use Rattle.collecting.specs.Filling.{EndsMakingWith}
use Rattle.collecting.specs.Objects.{seen}
use Rattle.collecting.specs.Parts.{EndsPart}
use Rattle.collecting.specs.Rooms.{EndsMaking, EndsRefill, IsNotHeld, MakingStands, Refills}
use Rattle.collecting.specs.Stages.{PartGoesOn}
use Rattle.managed.specs.Collecting.{StandsUnseen}
use Rattle.managed.specs.Bytes.{EndsReadingBytes, EndsWritingBytes}
use Rattle.managed.specs.Data.{EndsCopying, EndsReading, EndsWriting}
use Rattle.managed.specs.Goings.{LoadsWhole, LoadStands}
use Rattle.managed.specs.Scrubbing.{AreScrubbed}
use Rattle.foreign.specs.declared.held.Held.{Held}
use Rattle.foreign.specs.declared.cycles.CollectedOfC.{CollectedOfC}
use Rattle.foreign.specs.declared.objects.ObjectOfC.{ObjectOfC}
use Rattle.foreign.specs.Codes.{NO_HEAP, code_by}
use Rattle.foreign.specs.Which.{step_code}

-- a call was done on a handle's contents, if there are any; else the code is NO_HEAP
abbrev pub OnHeld : (Held → ℕ → Held → Type 0) → Option Held → ℕ → Option Held → Type 0
OnHeld P None code new = (code ≡ NO_HEAP) × (new ≡ None)
OnHeld P (Some h) code new = (g : Held) × P h code g × (new ≡ Some g)

-- OnHeld for a call that writes its result through a pointer: S is that nothing was written
abbrev pub OnHeldOr : Type 0 → (Held → ℕ → Held → Type 0) → Option Held → ℕ → Option Held → Type 0
OnHeldOr S P None code new = (code ≡ NO_HEAP) × (new ≡ None) × S
OnHeldOr S P (Some h) code new = (g : Held) × P h code g × (new ≡ Some g)

-- a call was done on a heap, and C is the code of its errors on the heap then
abbrev pub CodedBy : {A : Type 0} → (HeapState → Refusal → ℕ) → (HeapState → Result A Refusal → HeapState → Type 0)
    → Held → ℕ → Held → Type 0
CodedBy {A} C P h code g = (r : Result A Refusal) × P h.heap r g.heap × (code ≡ code_by (C g.heap) r)

-- CodedBy for a handle's contents
abbrev pub Calls : {A : Type 0} → (HeapState → Refusal → ℕ) → (HeapState → Result A Refusal → HeapState → Type 0)
    → Option Held → ℕ → Option Held → Type 0
Calls C P old code new = OnHeld (CodedBy C P) old code new

-- Calls for a call that writes its result through a pointer: Q is the condition on what is written if the call was
-- done, and S that nothing was written
abbrev pub Gives : {A : Type 0} → (HeapState → Refusal → ℕ) → (HeapState → Result A Refusal → HeapState → Type 0)
    → (A → Type 0) → Type 0 → Option Held → ℕ → Option Held → Type 0
Gives C P Q S None code new = (code ≡ NO_HEAP) × (new ≡ None) × S
Gives {A} C P Q S (Some h) code new =
    (r : Result A Refusal) × (g : Held) × P h.heap r g.heap × MatchResult r Q (λ _. S)
    × (code ≡ code_by (C g.heap) r) × (new ≡ Some g)

-- a step of thread t had its outcome; and if the heap represents a reference model, it does after the step
abbrev pub Stepped : {A : Type 0} → (A → Answer) → ℕ → Step → HeapState → Result A Refusal → HeapState → Type 0
Stepped answer t step h r g = DoesThread answer h t step r g × ThreadStands answer h t step r g

-- Stepped for a handle's contents, with a code that says which number of the step names nothing
abbrev pub CallsStep : {A : Type 0} → (A → Answer) → ℕ → Step → Option Held → ℕ → Option Held → Type 0
CallsStep answer t s old code new = Calls (step_code s) (Stepped answer t s) old code new

-- CallsStep, with a result that is written for C
abbrev pub GivesStep : {A : Type 0} → (A → Answer) → ℕ → Step → (A → Type 0) → Type 0 → Option Held → ℕ → Option Held
    → Type 0
GivesStep answer t s Q S old code new = Gives (step_code s) (Stepped answer t s) Q S old code new

-- a complete load of thread t, by its first step; and if the heap represents a reference model, it does after the
-- load
abbrev pub Loaded : ℕ → Step → HeapState → Result Unit Refusal → HeapState → Type 0
Loaded t begin h r g = LoadsWhole h t begin r g × LoadStands h t begin r g

-- Loaded for a handle's contents
abbrev pub CallsLoad : ℕ → Step → Option Held → ℕ → Option Held → Type 0
CallsLoad t begin old code new = Calls (step_code begin) (Loaded t begin) old code new

-- thread t was to read data words of an object, from word j on; nothing changed
abbrev pub ReadMany : ℕ → ℕ → ℕ → List ℕ → HeapState → Result Unit Refusal → HeapState → Type 0
ReadMany t object j values h r g = EndsReading t object j h r values × (g ≡ h)

-- thread t was to write data words of an object, from word j on
abbrev pub WroteMany : ℕ → ℕ → ℕ → List ℕ → HeapState → Result Unit Refusal → HeapState → Type 0
WroteMany t object j values h r g = EndsWriting t object j values h r g

-- thread t was to copy data words of the source, from word i on, to the target, from word j on
abbrev pub CopiedData : ℕ → ℕ → ℕ → ℕ → ℕ → ℕ → HeapState → Result Unit Refusal → HeapState → Type 0
CopiedData t target j source i count h r g = EndsCopying t target j source i count h r g

-- thread t was to read bytes of an object's data, from byte `at` on; nothing changed
abbrev pub ReadBytes : ℕ → ℕ → ℕ → List ℕ → HeapState → Result Unit Refusal → HeapState → Type 0
ReadBytes t object at bytes h r g = EndsReadingBytes t object at h r bytes × (g ≡ h)

-- thread t was to write bytes of an object's data, from byte `at` on
abbrev pub WroteBytes : ℕ → ℕ → ℕ → List ℕ → HeapState → Result Unit Refusal → HeapState → Type 0
WroteBytes t object at bytes h r g = EndsWritingBytes t object at bytes h r g

-- thread t was to make an object, for which the heap was collected if there was no space
abbrev pub Made : ℕ → ℕ → ℕ → ℕ → ℕ → HeapState → Result ℕ Refusal → HeapState → Type 0
Made words percent t target layout h r g =
    EndsMaking t words percent target layout h r g × MakingStands t target layout h r g

-- thread t was to make an object and fill it
abbrev pub MadeWith : ℕ → ℕ → ℕ → ℕ → ℕ → List ℕ → List ℕ → HeapState → Result ℕ Refusal → HeapState → Type 0
MadeWith words percent t target layout sources nums h r g =
    EndsMakingWith t words percent target layout sources nums h r g

-- thread t was to get a fresh buffer, for which the heap was collected if there was no space
abbrev pub Refilled : ℕ → ℕ → ℕ → HeapState → Result Buffer Refusal → HeapState → Type 0
Refilled words percent t h r g = Refills t h g × EndsRefill t words percent h r g × StandsUnseen h g × IsNotHeld r

-- the object that register r of thread t names was looked up, and nothing changed
abbrev pub Sees : ℕ → ℕ → HeapState → Result Object Refusal → HeapState → Type 0
Sees t register h r g = (r ≡ seen h t register) × (g ≡ h)

-- a complete collection, which leaves the reference model as it is
abbrev pub CollectedBy : ℕ → HeapState → Result Collected Refusal → HeapState → Type 0
CollectedBy percent h r g =
    Collects h g × EndsCollecting percent h r g × StandsUnseen h g × IsNotRoom r × IfOk r (λ _. AreScrubbed g)

-- a part of a collection, at its current stage
abbrev pub PartOf : ℕ → ℕ → Held → Result Bool Refusal → Held → Type 0
PartOf percent budget h r g =
    Collects h.heap g.heap
    × EndsPart h.heap r g.heap
    × StandsUnseen h.heap g.heap
    × IsNotRoom r
    × IfOk r (λ _. is_protect_crossing g.heap.phase ≡ false → AreScrubbed g.heap)
    × PartGoesOn percent budget h.parts h.heap r g.parts g.heap

-- the values that C gets of an object, and of a collection
abbrev pub IsSeen : ObjectOfC → Object → Type 0
IsSeen c o = (c.birth ≡ o.birth) × (c.layout ≡ o.layout) × (c.refs ≡ o.refs) × (c.nums ≡ o.nums)

abbrev pub IsTold : CollectedOfC → Collected → Type 0
IsTold c r =
    (c.live ≡ r.live) × (c.live_words ≡ r.live_words) × (c.emptied ≡ r.emptied) × (c.copied ≡ r.copied)
