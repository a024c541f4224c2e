-- The invariant: what holds for the address-level model and the reference model between steps, in four groups and
-- three facts about births.
use Rattle.std.specs.Prelude.{◌≡◌, ◌≢◌, ◌⊎◌, ◌<◌, ◌≤◌, ℕ, Bool, true, false, Option, Some, None, length}
use Rattle.model.specs.declared.records.Phase.TheVariants.{Idle, MarkCrossing, ProtectCrossing}
use Rattle.model.specs.declared.records.PageState.TheVariants.{Open, Closed, From, Gone}
use Rattle.model.specs.Stores.{has_memory, is_protected}
use Rattle.model.specs.Phases.{is_marking, is_crossing}
use Rattle.laws.specs.AddressHeap.{AddressHeap, HeapObject, Word, Null, To, Planned, Copied, OpenBarrier, LoadPlace}
use Rattle.laws.specs.AddressHeap.{AtField, AtGlobal, WorkerScan, field, current, names}
use Rattle.laws.specs.BirthHeap.{BirthHeap, ref, IsRoot, IsReached, IsReachable}

-- birth b has an object that the running mark has marked
pub record IsMarkedBirth (marked : ℕ → Bool) (object_at : ℕ → Option HeapObject) (b : ℕ) : Type 0 where
  pub address : ℕ
  pub object : HeapObject
  pub is_marked : marked address ≡ true
  pub here : object_at address ≡ Some object
  pub birth : object.birth ≡ b

-- a birth is a root, or marked
abbrev pub IsSeed : AddressHeap → BirthHeap → ℕ → Type 0
IsSeed w p b = IsRoot p b ⊎ IsMarkedBirth w.marked w.object_at b

-- a birth is kept: a path of the reference model's references leads to it from a root or from a marked birth
abbrev pub IsKept : AddressHeap → BirthHeap → ℕ → Type 0
IsKept w p = IsReached p.refs (IsSeed w p)

-- a reference is clean: null, or with the collector's clean value as its NMT bit
abbrev pub IsClean : AddressHeap → Word → Type 0
IsClean w v = (a : ℕ) (n : Bool) → v ≡ To a n → n ≡ w.nmt

-- a reference's NMT bit fits the phase
abbrev pub FitsPhase : AddressHeap → Word → Type 0
FitsPhase w v = record {
  outside : is_marking w.phase ≡ false → IsClean w v;  -- while no mark runs, it is clean
  -- while a mark runs, a clean reference leads to a marked object
  inside : (a : ℕ) → is_marking w.phase ≡ true → v ≡ To a w.nmt → w.marked a ≡ true;
}

-- a reference represents a birth or none, and its NMT bit fits the phase
abbrev pub StandsFor : AddressHeap → Word → Option ℕ → Type 0
StandsFor w v x = record { names : names w v ≡ Some x; fits : FitsPhase w v }

-- a birth has a current object, which no page release can remove, and which has what the reference model has
abbrev pub HasCurrent : AddressHeap → BirthHeap → ℕ → Type 0
HasCurrent w p b = record {
  address : ℕ;
  object : HeapObject;
  here : current w address ≡ Some object;
  birth : object.birth ≡ b;
  live : w.page_state address ≡ Closed → w.live address ≡ true;  -- on a closed page it is live, so it is in each plan
  -- on a From page it is planned to move
  entry : w.page_state address ≡ From → (n : ℕ) × (w.side_entry address ≡ Planned n);
  layout : object.layout ≡ p.layout b;
  data_words : object.data_words ≡ p.data_words b;
  refs_length : length object.refs ≡ length (p.refs b);
  refs : (i : ℕ) → StandsFor w (field object i) (ref p b i);
}

-- the place of a thread's load is a global, or a field of the current object of a birth to which one of its registers
-- refers
abbrev pub IsPlace : AddressHeap → BirthHeap → ℕ → LoadPlace → Type 0
IsPlace w p t (AtGlobal g) = w.is_global g ≡ true
IsPlace w p t (AtField a i) = record {
  object : HeapObject;
  here : current w a ≡ Some object;
  within : i < length object.refs;
  register : ℕ;
  held : p.register t register ≡ Some object.birth;
  -- its page is From only if the thread hasn't crossed
  page : w.page_state a ≡ From → (w.phase ≡ ProtectCrossing) × (w.crossed t ≡ false);
}

-- a thread has an open barrier exactly if it has a pending load, and the barrier fits the load
abbrev pub IsBarrierFor : AddressHeap → BirthHeap → ℕ → Option OpenBarrier → Option (ℕ × Option ℕ) → Type 0
IsBarrierFor w p t None None = Unit {0}
IsBarrierFor w p t (Some k) (Some q) = record {
  target : k.target ≡ q.0;
  raw : names w k.raw ≡ Some q.1;
  now : StandsFor w k.now q.1;
  place : IsPlace w p t k.place;
  running : w.parked t ≡ false;
}
IsBarrierFor w p t _ _ = ⊥

-- every root represents its entry in the reference model, and every kept birth has its object
abbrev pub SoundWords : AddressHeap → BirthHeap → Type 0
SoundWords w p = record {
  registers : (t r : ℕ) → StandsFor w (w.register t r) (p.register t r);
  globals : (g : ℕ) → StandsFor w (w.global g) (p.global g);
  barriers : (t : ℕ) → IsBarrierFor w p t (w.barrier t) (p.pending t);
  kept : (b : ℕ) → IsKept w p b → HasCurrent w p b;
}

-- objects lie on pages with memory, each birth has at most one current object, and forwarding leads to open pages
abbrev pub SoundObjects : AddressHeap → Type 0
SoundObjects w = record {
  one_current : (a c : ℕ) (o q : HeapObject) → current w a ≡ Some o → current w c ≡ Some q → o.birth ≡ q.birth → a ≡ c;
  with_memory : (a : ℕ) (o : HeapObject) → w.object_at a ≡ Some o → has_memory (w.page_state a) ≡ true;
  births : (a : ℕ) (o : HeapObject) → w.object_at a ≡ Some o → o.birth < w.births;
  -- a planned object is on a From page
  planned_from : (a n : ℕ) → w.side_entry a ≡ Planned n → w.page_state a ≡ From;
  -- it exists
  planned_object : (a n : ℕ) → w.side_entry a ≡ Planned n → (o : HeapObject) × (w.object_at a ≡ Some o);
  planned_open : (a n : ℕ) → w.side_entry a ≡ Planned n → w.page_state n ≡ Open;  -- its new place is on an open page
  planned_free : (a n : ℕ) → w.side_entry a ≡ Planned n → w.object_at n ≡ None;  -- which has no object there
  -- and no other object is planned for it
  planned_once : (a c n : ℕ) → w.side_entry a ≡ Planned n → w.side_entry c ≡ Planned n → a ≡ c;
  -- only objects of protected pages are copied away
  copied_from : (a n : ℕ) → w.side_entry a ≡ Copied n → is_protected (w.page_state a) ≡ true;
  -- and to open pages, so one look-up in a forwarding table suffices
  copied_open : (a n : ℕ) → w.side_entry a ≡ Copied n → w.page_state n ≡ Open;
  live_object : (a : ℕ) → w.page_state a ≡ Closed → w.live a ≡ true → (o : HeapObject) × (w.object_at a ≡ Some o);
}

-- the fields of the object at an address that have a number below n are clean
abbrev pub IsCleanBelow : AddressHeap → ℕ → ℕ → Type 0
IsCleanBelow w a n = (o : HeapObject) (i : ℕ) → w.object_at a ≡ Some o → i < n → IsClean w (field o i)

-- what the running mark has done: whatever it has passed has clean references only
abbrev pub SoundMarks : AddressHeap → Type 0
SoundMarks w = record {
  running : (a : ℕ) → w.marked a ≡ true → is_marking w.phase ≡ true;  -- nothing is marked while no mark runs
  object : (a : ℕ) → w.marked a ≡ true → (o : HeapObject) × (w.object_at a ≡ Some o);
  unprotected : (a : ℕ) → w.marked a ≡ true → is_protected (w.page_state a) ≡ false;
  todo : (a : ℕ) → w.todo a ≡ true → w.marked a ≡ true;
  scanned : (a : ℕ) (o : HeapObject) (i : ℕ)
      → w.marked a ≡ true → w.todo a ≡ false → w.object_at a ≡ Some o → IsClean w (field o i);
  -- a worker's object is grey
  scanning : (k : ℕ) (s : WorkerScan) → w.scan k ≡ Some s → w.todo s.address ≡ true;
  -- its fields before the next one are clean
  passed : (k : ℕ) (s : WorkerScan) → w.scan k ≡ Some s → IsCleanBelow w s.address s.next;
  -- no other worker has it
  alone : (k l : ℕ) (s z : WorkerScan) → w.scan k ≡ Some s → w.scan l ≡ Some z → s.address ≡ z.address → k ≡ l;
  registers : (t r : ℕ) → is_marking w.phase ≡ true → w.crossed t ≡ true → IsClean w (w.register t r);
  globals : (g : ℕ) → is_marking w.phase ≡ true → w.global_todo g ≡ false → IsClean w (w.global g);
}

-- what holds for threads, pages and marks in each phase
abbrev pub SoundPhases : AddressHeap → Type 0
SoundPhases w = record {
  waits : is_crossing w.phase ≡ true → (t : ℕ) × (w.crossed t ≡ false);  -- some thread hasn't crossed an open checkpoint
  crossed : is_crossing w.phase ≡ false → (t : ℕ) → w.crossed t ≡ true;  -- if none is open, all have crossed
  idle : (a : ℕ) → w.phase ≡ Idle → is_protected (w.page_state a) ≡ false;  -- no page is protected in Idle
  -- nothing is released before all have crossed
  none_gone : (a : ℕ) → w.phase ≡ ProtectCrossing → w.page_state a ≢ Gone;
  uncopied : (a n : ℕ) → w.phase ≡ ProtectCrossing → w.side_entry a ≢ Copied n;  -- and nothing is copied
  -- nothing is scanned before all have crossed
  all_todo : (a : ℕ) → w.phase ≡ MarkCrossing → w.marked a ≡ true → w.todo a ≡ true;
  globals_todo : (g : ℕ) → w.phase ≡ MarkCrossing → w.is_global g ≡ true → w.global_todo g ≡ true;
  no_global : (g : ℕ) → w.is_global g ≡ false → w.global g ≡ Null;  -- a number without a global is null
  no_scan : (k : ℕ) → w.phase ≡ MarkCrossing → w.scan k ≡ None;
}

-- the invariant of an address-level model, its reference model, and the reference model when the last mark started
pub record Invariant (w : AddressHeap) (p p0 : BirthHeap) : Type 0 where
  pub words : SoundWords w p
  pub objects : SoundObjects w
  pub marks : SoundMarks w
  pub phases : SoundPhases w
  pub births : w.births ≡ p.births
  -- each kept birth was reachable then, or is born since
  pub since : is_marking w.phase ≡ true → (b : ℕ) → IsKept w p b → IsReachable p0 b ⊎ (p0.births ≤ b)
  pub later : p0.births ≤ p.births
