-- What a view of a heap returns: what each reference model has that the heap represents.
use Rattle.std.specs.Prelude.{◌≡◌, ℕ, Option, Some, None, Result, Ok, Err, slice_get, length}
use Rattle.model.specs.declared.steps.Refusal.{Refusal}
use Rattle.model.specs.declared.steps.Refusal.TheVariants as refusals
use Rattle.model.specs.Plain.{PlainHeap, PlainThread, Object, field_of, datum_of}
use Rattle.model.specs.Refusing.{or_refuse}
use Rattle.model.specs.States.{HeapState, Reference}
use Rattle.laws.specs.AddressHeap.{HeapObject, current, resolve}
use Rattle.laws.specs.BirthHeap.{IsReachable}
use Rattle.collecting.specs.declared.seeing.Object.{Object as Seen}
use Rattle.refinement.specs.PlainHeaps.{births_of}
use Rattle.refinement.specs.Standing.{Holds}
use Rattle.refinement.specs.Worlds.{world_of}

-- a handle: a heap, and the address of an object in it
pub record HandleState : Type 0 where
  pub heap : HeapState
  pub address : ℕ

-- a property of each reference model that a heap represents
abbrev pub InPlain : HeapState → (PlainHeap → Type 0) → Type 0
InPlain h P = (p p0 : PlainHeap) → Holds h p p0 → P p

-- the birth of an object that may be missing
abbrev pub birth_in : Option HeapObject → ℕ
birth_in None = 0
birth_in (Some o) = o.birth

-- the birth of the object that a handle refers to
abbrev pub birth_seen : HandleState → ℕ
birth_seen s = birth_in (current (world_of s.heap) s.address)

-- the object of that birth in a reference model
abbrev pub object_seen : HandleState → PlainHeap → Option Object
object_seen s p = slice_get p.objects (birth_seen s)

-- the current object of a reachable birth is at an address
pub record SeesReachable (h : HeapState) (p : PlainHeap) (a : ℕ) : Type 0 where
  pub object : HeapObject
  pub here : current (world_of h) a ≡ Some object
  pub reachable : IsReachable (births_of p) object.birth

-- a handle refers to a reachable object
abbrev pub IsHandle : HandleState → Type 0
IsHandle s = InPlain s.heap (λ p. SeesReachable s.heap p s.address)

-- the object at an address of a heap
abbrev pub handle_at : HeapState → ℕ → HandleState
handle_at h a = record { heap = h; address = a }

-- the current address of a reference's object; none for null
abbrev pub place_of : HeapState → Reference → Option ℕ
place_of h None = None
place_of h (Some w) = Some (resolve (world_of h) w.0)

-- what was found at a place is what each reference model has there: no place, null, or a birth
abbrev pub ReadsEntry : HeapState → (PlainHeap → Option (Option ℕ)) → Result (Option ℕ) Refusal → Type 0
ReadsEntry h entry (Ok None) = InPlain h (λ p. entry p ≡ Some None)
ReadsEntry h entry (Ok (Some a)) =
    IsHandle (handle_at h a) × InPlain h (λ p. entry p ≡ Some (Some (birth_seen (handle_at h a))))
ReadsEntry h entry (Err e) = (e ≡ refusals.BadIndex) × InPlain h (λ p. entry p ≡ None)

-- the addresses of what was found
abbrev pub addresses : Result (Option HandleState) Refusal → Result (Option ℕ) Refusal
addresses (Ok None) = Ok None
addresses (Ok (Some s)) = Ok (Some s.address)
addresses (Err e) = Err e

-- what was found is in this heap
abbrev pub AreIn : HeapState → Result (Option HandleState) Refusal → Type 0
AreIn h (Ok (Some s)) = s.heap ≡ h
AreIn h (Ok None) = Unit {0}
AreIn h (Err e) = Unit {0}

-- handles that were found in a heap are what each reference model has at a place
abbrev pub FindsEntry : HeapState → (PlainHeap → Option (Option ℕ)) → Result (Option HandleState) Refusal → Type 0
FindsEntry h entry result = AreIn h result × ReadsEntry h entry (addresses result)

-- register r of a thread that may be missing: a birth or null, if it exists
abbrev pub register_in : ℕ → Option PlainThread → Option (Option ℕ)
register_in r None = None
register_in r (Some t) = slice_get t.registers r

-- register r of thread t, in a reference model
abbrev pub register_entry : ℕ → ℕ → PlainHeap → Option (Option ℕ)
register_entry t r p = register_in r (slice_get p.threads t)

-- global g, in a reference model
abbrev pub global_entry : ℕ → PlainHeap → Option (Option ℕ)
global_entry g p = slice_get p.globals g

-- reference i of a handle's object, in a reference model
abbrev pub field_entry : HandleState → ℕ → PlainHeap → Option (Option ℕ)
field_entry s i p = field_of (object_seen s p) i

-- datum j of a handle's object is what each reference model has
abbrev pub ReadsDatum : HandleState → ℕ → Result ℕ Refusal → Type 0
ReadsDatum s j result = InPlain s.heap (λ p. result ≡ or_refuse (datum_of (object_seen s p) j) refusals.BadIndex)

-- an object of a reference model that may be missing has this layout, and these numbers of references and data words
abbrev pub IsShaped : Option Object → ℕ → ℕ → ℕ → Type 0
IsShaped None layout refs nums = ⊥
IsShaped (Some o) layout refs nums = (o.layout ≡ layout) × (length o.refs ≡ refs) × (length o.data_words ≡ nums)

-- what a handle's object is read as: its birth, and what each reference model has of it
pub record TellsObject (s : HandleState) (o : Seen) : Type 0 where
  pub birth : o.birth ≡ birth_seen s
  pub shape : InPlain s.heap (λ p. IsShaped (object_seen s p) o.layout o.refs o.nums)

-- the same for a result, which is `Ok`
abbrev pub TellsOk : HandleState → Result Seen Refusal → Type 0
TellsOk s (Ok o) = TellsObject s o
TellsOk s (Err e) = ⊥
