-- The promises for every pair of models to which transitions lead: what `law` ensures.
use Rattle.std.specs.Prelude.{◌≡◌, ◌⊎◌, ◌≤◌, ◌↔◌, ℕ, Bool, true, false, Option, Some, None, length}
use Rattle.model.specs.Stores.{has_memory}
use Rattle.laws.specs.AddressHeap.{AddressHeap, Null, To, HeapObject, Planned, OpenBarrier, field, current, names}
use Rattle.laws.specs.BirthHeap.{BirthHeap, ref, IsReachable}
use Rattle.laws.specs.Invariant.{Invariant}
use Rattle.laws.specs.Edits.{end_mark}
use Rattle.laws.specs.First.{first, plain_first}
use Rattle.laws.specs.Transitions.{IsUsable, Uses, Run, MayEndMark}

-- birth b has exactly one current object, which is on a page with memory and has the layout, the data and the
-- references of the reference model
pub record HasOneCopy (w : AddressHeap) (p : BirthHeap) (b : ℕ) : Type 0 where
  pub address : ℕ
  pub object : HeapObject
  pub here : current w address ≡ Some object
  pub birth : object.birth ≡ b
  pub only : (a : ℕ) (o : HeapObject) → current w a ≡ Some o → o.birth ≡ b → a ≡ address
  pub frame : has_memory (w.page_state address) ≡ true
  pub layout : object.layout ≡ p.layout b
  pub data_words : object.data_words ≡ p.data_words b
  pub refs_length : length object.refs ≡ length (p.refs b)
  pub refs : (i : ℕ) → names w (field object i) ≡ Some (ref p b i)

-- a thread has an open barrier exactly if it has a pending load, for the same register; the reference that was loaded
-- and the corrected one represent what is pending
abbrev pub LoadStandsFor : AddressHeap → Option OpenBarrier → Option (ℕ × Option ℕ) → Type 0
LoadStandsFor w None None = Unit {0}
LoadStandsFor w (Some k) (Some q) = record {
  target : k.target ≡ q.0;
  raw : names w k.raw ≡ Some q.1;
  now : names w k.now ≡ Some q.1;
}
LoadStandsFor w _ _ = ⊥

-- an address-level model represents a reference model: registers, loads and globals represent its entries, and each
-- reachable birth has exactly one copy
pub record StandsForPlain (w : AddressHeap) (p : BirthHeap) : Type 0 where
  pub registers : (t r : ℕ) → names w (w.register t r) ≡ Some (p.register t r)
  pub loads : (t : ℕ) → LoadStandsFor w (w.barrier t) (p.pending t)
  pub globals : (g : ℕ) → names w (w.global g) ≡ Some (p.global g)
  pub reachable : (b : ℕ) → IsReachable p b → HasOneCopy w p b
  pub births : w.births ≡ p.births

-- object o of a usable register is on a page with memory, and is the object of the birth in the reference model's
-- register
pub record ReadsPlain (w : AddressHeap) (p : BirthHeap) (t r a : ℕ) (o : HeapObject) : Type 0 where
  pub frame : has_memory (w.page_state a) ≡ true
  pub birth : p.register t r ≡ Some o.birth
  pub layout : o.layout ≡ p.layout o.birth
  pub data_words : o.data_words ≡ p.data_words o.birth

-- what is read through a usable register is what the reference model has
abbrev pub UsableReadsPlain : AddressHeap → BirthHeap → Type 0
UsableReadsPlain w p = (t r a : ℕ) (o : HeapObject) → Uses w t r a o → ReadsPlain w p t r a o

-- two usable registers of a thread have one address exactly if they refer to one birth
abbrev pub SameAddressSameBirth : AddressHeap → BirthHeap → Type 0
SameAddressSameBirth w p =
    (t r s a c : ℕ) (o q : HeapObject) → Uses w t r a o → Uses w t s c q
    → (a ≡ c) ↔ (p.register t r ≡ p.register t s)

-- a register is null exactly if it refers to no birth
abbrev pub NullIsNone : AddressHeap → BirthHeap → Type 0
NullIsNone w p = (t r : ℕ) → (w.register t r ≡ Null) ↔ (p.register t r ≡ None)

-- no usable register refers to a page without memory
abbrev pub UsableHasMemory : AddressHeap → Type 0
UsableHasMemory w =
    (t r a : ℕ) (n : Bool) → w.register t r ≡ To a n → IsUsable w t a → has_memory (w.page_state a) ≡ true

-- the current object of each reachable birth is live
abbrev pub ReachableIsLive : AddressHeap → BirthHeap → Type 0
ReachableIsLive w p =
    (b : ℕ) → IsReachable p b → (a : ℕ) (o : HeapObject) → current w a ≡ Some o → o.birth ≡ b → w.live a ≡ true

-- each live object was reachable when the last mark started, or is born since
abbrev pub LiveWasReachable : AddressHeap → BirthHeap → Type 0
LiveWasReachable w p0 =
    (a : ℕ) (o : HeapObject) → w.live a ≡ true → current w a ≡ Some o → IsReachable p0 o.birth ⊎ (p0.births ≤ o.birth)

-- the first models have the invariant, and every list of transitions keeps it
abbrev pub RunsKeepInvariant : Type 0
RunsKeepInvariant =
    ((is_global : ℕ → Bool) → Invariant (first is_global) plain_first plain_first)
    × ((w : AddressHeap) (p p0 : BirthHeap) (v : AddressHeap) (q q0 : BirthHeap)
    → Invariant w p p0 → Run w p p0 v q q0 → Invariant v q q0)

-- after every list of transitions from the first models, the address-level model represents the reference model, and
-- no usable register refers to a page without memory
abbrev pub RunsStandForPlain : Type 0
RunsStandForPlain =
    (is_global : ℕ → Bool) (w : AddressHeap) (p p0 : BirthHeap) → Run (first is_global) plain_first plain_first w p p0
    → StandsForPlain w p × UsableHasMemory w

-- after every list of transitions from the first models, a thread's reads of its registers return what they do in the
-- reference model: the object of a birth, whether two registers refer to one birth, and whether a register is null
abbrev pub RunsAnswerPlain : Type 0
RunsAnswerPlain =
    (is_global : ℕ → Bool) (w : AddressHeap) (p p0 : BirthHeap) → Run (first is_global) plain_first plain_first w p p0
    → UsableReadsPlain w p × SameAddressSameBirth w p × NullIsNone w p

-- for models with the invariant, in which a mark may end: after its end each reachable object is live, and each live
-- object was reachable when the mark started, or is born since
abbrev pub MarksEndLive : Type 0
MarksEndLive =
    (w : AddressHeap) (p p0 : BirthHeap) → Invariant w p p0 → MayEndMark w → (lent : ℕ → Bool)
    → ReachableIsLive (end_mark lent w) p × LiveWasReachable (end_mark lent w) p0

-- an uncopied object is unreachable
abbrev pub PlannedIsUnreachable : AddressHeap → BirthHeap → Type 0
PlannedIsUnreachable w p =
    (a n : ℕ) (o : HeapObject) → w.side_entry a ≡ Planned n → w.object_at a ≡ Some o → IsReachable p o.birth → ⊥

-- for models with the invariant, in which a mark may end: objects that are uncopied by then are unreachable
abbrev pub MarksLeaveUnreachable : Type 0
MarksLeaveUnreachable =
    (w : AddressHeap) (p p0 : BirthHeap) → Invariant w p p0 → MayEndMark w → PlannedIsUnreachable w p

-- a mark can end: from the first models without globals, transitions lead to some in which one may
pub record MarksCanEnd : Type 0 where
  pub heap : AddressHeap
  pub run : Run (first (λ g. false)) plain_first plain_first heap plain_first plain_first
  pub ends : MayEndMark heap
