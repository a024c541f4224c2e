-- The effect of an accepted step on the address-level model and on the reference model. The premises are those tests
-- of the step that the invariant needs: a step that tests more is a transition too. A step that changes neither
-- model, such as reading a datum or giving a buffer back, has none.
use Rattle.std.specs.Prelude.{◌≡◌, ◌≢◌, ◌⊎◌, ◌<◌, ◌≤◌, ℕ, Bool, true, false, Option, Some, None, List, length, get_or}
use Rattle.model.specs.declared.records.Phase.{Phase}
use Rattle.model.specs.declared.records.Phase.TheVariants.{Idle, MarkCrossing, Scanning, ProtectCrossing, Relocating}
use Rattle.model.specs.declared.records.PageState.{PageState}
use Rattle.model.specs.declared.records.PageState.TheVariants.{Unused, Open, Closed, From}
use Rattle.model.specs.Stores.{is_protected}
use Rattle.model.specs.Phases.{is_marking}
use Rattle.laws.specs.AddressHeap.{AddressHeap, HeapObject, Null, To, SideEntry, Planned, Copied, OpenBarrier}
use Rattle.laws.specs.AddressHeap.{AtField, AtGlobal, WorkerScan, field}
use Rattle.laws.specs.BirthHeap.{BirthHeap}
use Rattle.laws.specs.Edits.{set_object, set_barrier, plain_set_pending, end_load, set_global, plain_set_global}
use Rattle.laws.specs.Edits.{copy_object, mark_word, marked_word, end_global_scan, set_scan, end_scan, start_mark}
use Rattle.laws.specs.Edits.{cross_checkpoint, release_page, protect_pages, open_page, set_parked, add_object}
use Rattle.laws.specs.Edits.{plain_born, end_mark}
use Rattle.laws.specs.Effects.{plain_store, plain_datum, plain_load_field, plain_finish, plain_set_register}
use Rattle.laws.specs.Effects.{set_register, with_field, with_datum, new_barrier, nmt_trap_due, mark_registers}
use Rattle.laws.specs.Effects.{scan_field}

-- an address that thread t may use: its page isn't protected, or the thread hasn't crossed
abbrev pub IsUsable : AddressHeap → ℕ → ℕ → Type 0
IsUsable w t a = is_protected (w.page_state a) ≡ true → (w.phase ≡ ProtectCrossing) × (w.crossed t ≡ false)

-- register r of thread t is usable, and object o is at its address
pub record Uses (w : AddressHeap) (t r a : ℕ) (o : HeapObject) : Type 0 where
  pub bit : Bool
  pub word : w.register t r ≡ To a bit
  pub usable : IsUsable w t a
  pub here : w.object_at a ≡ Some o

-- f is the phase after thread t crosses: the same if another hasn't crossed, and the next one if t is the last
abbrev pub IsPhaseAfter : AddressHeap → ℕ → Phase → Phase → Phase → Type 0
IsPhaseAfter w t now next f =
    ((f ≡ now) × (u : ℕ) × (u ≢ t) × (w.crossed u ≡ false))
    ⊎ ((f ≡ next) × ((u : ℕ) → u ≢ t → w.crossed u ≡ true))

-- a mark runs, and all threads have crossed
pub record IsScanning (w : AddressHeap) : Type 0 where
  pub runs : is_marking w.phase ≡ true
  pub crossed : (t : ℕ) → w.crossed t ≡ true

-- a mark may end: nothing is grey, and no barrier is open
pub record MayEndMark (w : AddressHeap) : Type 0 where
  pub scans : IsScanning w
  pub todo : (a : ℕ) → w.todo a ≡ false
  pub globals : (g : ℕ) → w.global_todo g ≡ false
  pub barriers : (t : ℕ) → w.barrier t ≡ None

-- a mark may start: no mark runs, and no page is being protected; c is true for numbers that no thread has
pub record MayStartMark (w : AddressHeap) (c : ℕ → Bool) : Type 0 where
  pub phase : (w.phase ≡ Idle) ⊎ (w.phase ≡ Relocating)
  pub waits : (t : ℕ) × (c t ≡ false)
  pub no_thread : (t r : ℕ) → c t ≡ true → w.register t r ≡ Null

-- closed pages may be protected, with a plan that has a free place of its own for each of their live objects, on
-- pages that open for it; c is true for numbers that no thread has
pub record MayProtect (w : AddressHeap) (states : ℕ → PageState) (entries : ℕ → SideEntry) (c : ℕ → Bool) : Type 0 where
  pub phase : w.phase ≡ Idle
  pub changes : (a : ℕ)
      → (states a ≡ w.page_state a)
      ⊎ ((w.page_state a ≡ Closed) × (states a ≡ From))
      ⊎ ((w.page_state a ≡ Unused) × (states a ≡ Open))
  pub uncopied : (a n : ℕ) → entries a ≢ Copied n
  pub from : (a n : ℕ) → entries a ≡ Planned n → states a ≡ From
  pub planned_live : (a n : ℕ) → entries a ≡ Planned n → w.live a ≡ true
  pub target : (a n : ℕ) → entries a ≡ Planned n → (w.object_at n ≡ None) × (states n ≡ Open)
  pub planned_once : (a b n : ℕ) → entries a ≡ Planned n → entries b ≡ Planned n → a ≡ b
  pub live : (a : ℕ) (o : HeapObject) → states a ≡ From → w.object_at a ≡ Some o → w.live a ≡ true
      → (n : ℕ) × (entries a ≡ Planned n)
  pub waits : (t : ℕ) × (c t ≡ false)
  pub no_thread : (t : ℕ) → c t ≡ true → w.barrier t ≡ None

-- a protected page may be released: all its planned objects are copied, and all threads have crossed
pub record MayRelease (w : AddressHeap) (inside : ℕ → Bool) : Type 0 where
  pub from : (a : ℕ) → inside a ≡ true → w.page_state a ≡ From
  pub copied : (a n : ℕ) → inside a ≡ true → w.side_entry a ≢ Planned n
  pub crossed : w.phase ≡ ProtectCrossing → (t : ℕ) → w.crossed t ≡ true
  pub busy : w.phase ≢ Idle

-- object o may be born at a: the place is free, on an open page and in no plan, and all its references are null; xs
-- and ds are the references and data of the new birth, l its layout
pub record MayBeBorn (w : AddressHeap) (a : ℕ) (o : HeapObject) (t l : ℕ) (xs : List (Option ℕ)) (ds : List ℕ)
    : Type 0 where
  pub free : w.object_at a ≡ None
  pub page_open : w.page_state a ≡ Open
  pub unplanned : (x : ℕ) → w.side_entry x ≢ Planned a
  pub birth : o.birth ≡ w.births
  pub nulls : (j : ℕ) → field o j ≡ Null
  pub nones : (j : ℕ) → get_or xs j None ≡ None
  pub refs_length : length o.refs ≡ length xs
  pub layout : o.layout ≡ l
  pub data_words : o.data_words ≡ ds
  pub barrier : w.barrier t ≡ None

-- the effects of steps: from an address-level model, its reference model, and the reference model when the last mark
-- started, to those after the step
pub data Transition (w : AddressHeap) (p p0 : BirthHeap) : AddressHeap → BirthHeap → BirthHeap → Type 0 where
  -- a thread takes a buffer on a fresh page, which opens; inside is true for the page's addresses
  TakeFresh : (inside : ℕ → Bool) → ((a : ℕ) → inside a ≡ true → w.page_state a ≡ Unused)
      → Transition w p p0 (open_page inside w) p p0
  -- thread t allocates an object
  New : (a : ℕ) (o : HeapObject) (t r l : ℕ) (xs : List (Option ℕ)) (ds : List ℕ) → MayBeBorn w a o t l xs ds
      → Transition w p p0 (add_object a o t r w) (plain_born l xs ds t r p) p0
  -- thread t begins to load field j of the object in register r, for register d
  Load : (t d r a : ℕ) (o : HeapObject) (j : ℕ) → Uses w t r a o → j < length o.refs → w.parked t ≡ false
      → Transition w p p0 (set_barrier t (new_barrier d (AtField a j) (field o j)) w) (plain_load_field t d r j p) p0
  -- thread t begins to load global g, for register d
  LoadGlobal : (t d g : ℕ) → w.is_global g ≡ true → w.parked t ≡ false
      → Transition w p p0 (set_barrier t (new_barrier d (AtGlobal g) (w.global g)) w) (plain_set_pending t
      (d, p.global g) p) p0
  -- a GC trap, whose object was copied: the reference is forwarded
  TrapMoved : (t : ℕ) (k : OpenBarrier) (a n : ℕ) (b : Bool) → w.barrier t ≡ Some k → k.now ≡ To a b
      → w.side_entry a ≡ Copied n
      → Transition w p p0 (set_barrier t (record k { now = To n b }) w) p p0
  -- a GC trap, whose object wasn't copied: the thread copies it once all threads have crossed, and the reference is
  -- forwarded
  TrapCopied : (t : ℕ) (k : OpenBarrier) (a n : ℕ) (b : Bool) (o : HeapObject) → w.barrier t ≡ Some k → k.now ≡ To a b
      → w.side_entry a ≡ Planned n → w.object_at a ≡ Some o → w.phase ≢ ProtectCrossing
      → Transition w p p0 (set_barrier t (record k { now = To n b }) (copy_object a n o w)) p p0
  -- an NMT trap: the object is marked, and the reference becomes clean
  TrapMarked : (t : ℕ) (k : OpenBarrier) → w.barrier t ≡ Some k → is_marking w.phase ≡ true
      → Transition w p p0 (set_barrier t (record k { now = marked_word w k.now }) (mark_word k.now w)) p p0
  -- the corrected reference is written back to its global, if that still has what was loaded
  HealGlobal : (t : ℕ) (k : OpenBarrier) (g : ℕ) → w.barrier t ≡ Some k → k.place ≡ AtGlobal g → w.global g ≡ k.raw
      → nmt_trap_due w t k.now ≡ false
      → Transition w p p0 (set_barrier t (record k { healed = true }) (set_global g k.now w)) p p0
  -- the corrected reference is written back to its field, if that still has what was loaded
  HealField : (t : ℕ) (k : OpenBarrier) (a j : ℕ) (o : HeapObject) → w.barrier t ≡ Some k → k.place ≡ AtField a j
      → w.object_at a ≡ Some o → field o j ≡ k.raw → nmt_trap_due w t k.now ≡ false
      → Transition w p p0 (set_barrier t (record k { healed = true }) (set_object a (with_field o j k.now) w)) p p0
  -- the place has another reference by now, and nothing is written
  HealChanged : (t : ℕ) (k : OpenBarrier) → w.barrier t ≡ Some k
      → Transition w p p0 (set_barrier t (record k { healed = true }) w) p p0
  -- a load ends, and its register gets the corrected reference
  Finish : (t : ℕ) (k : OpenBarrier) → w.barrier t ≡ Some k → nmt_trap_due w t k.now ≡ false
      → Transition w p p0 (end_load t k.target k.now w) (plain_finish t p) p0
  -- thread t stores register s in field j of the object in register r
  Store : (t r a : ℕ) (o : HeapObject) (j s : ℕ) → Uses w t r a o → j < length o.refs
      → Transition w p p0 (set_object a (with_field o j (w.register t s)) w) (plain_store t r j s p) p0
  -- thread t stores register s in global g
  StoreGlobal : (t g s : ℕ) → w.is_global g ≡ true
      → Transition w p p0 (set_global g (w.register t s) w) (plain_set_global g (p.register t s) p) p0
  -- thread t writes datum j of the object in register r
  SetDatum : (t r a : ℕ) (o : HeapObject) (j v : ℕ) → Uses w t r a o
      → Transition w p p0 (set_object a (with_datum o j v) w) (plain_datum t r j v p) p0
  -- thread t copies register s to register r
  CopyReg : (t r s : ℕ) → w.barrier t ≡ None
      → Transition w p p0 (set_register t r (w.register t s) w) (plain_set_register t r (p.register t s) p) p0
  -- thread t clears register r
  ClearReg : (t r : ℕ) → w.barrier t ≡ None
      → Transition w p p0 (set_register t r Null w) (plain_set_register t r None p) p0
  -- thread t crosses the mark's checkpoint: its registers, of which n are in use, are marked
  CrossMark : (t n : ℕ) (f : Phase) → w.phase ≡ MarkCrossing → w.barrier t ≡ None
      → ((r : ℕ) → n ≤ r → w.register t r ≡ Null) → IsPhaseAfter w t MarkCrossing Scanning f
      → Transition w p p0 (cross_checkpoint t f (mark_registers t n w)) p p0
  -- a worker crosses the mark's checkpoint for a parked thread
  CrossMarkFor : (t n : ℕ) (f : Phase) → w.phase ≡ MarkCrossing → w.parked t ≡ true
      → ((r : ℕ) → n ≤ r → w.register t r ≡ Null) → IsPhaseAfter w t MarkCrossing Scanning f
      → Transition w p p0 (cross_checkpoint t f (mark_registers t n w)) p p0
  -- a worker crosses the protect checkpoint for a parked thread
  CrossProtectFor : (t : ℕ) (f : Phase) → w.phase ≡ ProtectCrossing → w.parked t ≡ true
      → IsPhaseAfter w t ProtectCrossing Relocating f
      → Transition w p p0 (cross_checkpoint t f w) p p0
  -- thread t crosses the protect checkpoint; its registers stay as they are
  CrossProtect : (t : ℕ) (f : Phase) → w.phase ≡ ProtectCrossing → w.barrier t ≡ None
      → IsPhaseAfter w t ProtectCrossing Relocating f
      → Transition w p p0 (cross_checkpoint t f w) p p0
  -- a register whose object was copied is forwarded
  ScrubMoved : (t r a n : ℕ) (b : Bool) → w.barrier t ≡ None → w.register t r ≡ To a b → w.side_entry a ≡ Copied n
      → Transition w p p0 (set_register t r (To n b) w) p p0
  -- a register whose object wasn't copied is forwarded once all threads have crossed; the object is copied first
  ScrubCopied : (t r a n : ℕ) (b : Bool) (o : HeapObject) → w.barrier t ≡ None → w.register t r ≡ To a b
      → w.side_entry a ≡ Planned n → w.object_at a ≡ Some o → w.phase ≢ ProtectCrossing
      → Transition w p p0 (set_register t r (To n b) (copy_object a n o w)) p p0
  -- thread t is parked, or runs again
  Park : (t : ℕ) (b : Bool) → w.barrier t ≡ None
      → Transition w p p0 (set_parked t b w) p p0
  -- a mark starts, and the reference model of this moment is kept
  StartMark : (c : ℕ → Bool) → MayStartMark w c
      → Transition w p p0 (start_mark c w) p p
  -- worker k takes a grey object that no other worker has
  Pick : (k a : ℕ) → IsScanning w → w.todo a ≡ true → ((l : ℕ) (z : WorkerScan) → w.scan l ≡ Some z → z.address ≢ a)
      → Transition w p p0 (set_scan k (Some (record { address = a; next = 0 })) w) p p0
  -- worker k marks the next field of its object
  ScanField : (k : ℕ) (s : WorkerScan) (o : HeapObject) → IsScanning w → w.scan k ≡ Some s
      → w.object_at s.address ≡ Some o → s.next < length o.refs
      → Transition w p p0 (scan_field k s o w) p p0
  -- worker k has passed the last field of its object
  ScanEnd : (k : ℕ) (s : WorkerScan) (o : HeapObject) → IsScanning w → w.scan k ≡ Some s
      → w.object_at s.address ≡ Some o → length o.refs ≤ s.next
      → Transition w p p0 (end_scan k s.address w) p p0
  -- a worker marks global g, and writes it back clean
  ScanGlobal : (g : ℕ) → w.is_global g ≡ true → IsScanning w
      → Transition w p p0 (end_global_scan g (set_global g (marked_word w (w.global g)) (mark_word
      (w.global g) w))) p p0
  -- a mark ends; lent is true for the addresses of pages in which a buffer is lent
  EndMark : (lent : ℕ → Bool) → MayEndMark w
      → Transition w p p0 (end_mark lent w) p p0
  -- pages are protected
  Protect : (states : ℕ → PageState) (entries : ℕ → SideEntry) (c : ℕ → Bool) → MayProtect w states entries c
      → Transition w p p0 (protect_pages states entries c w) p p0
  -- a worker copies a planned object, once all threads have crossed
  Copy : (a n : ℕ) (o : HeapObject) → w.phase ≢ ProtectCrossing → w.side_entry a ≡ Planned n → w.object_at a ≡ Some o
      → Transition w p p0 (copy_object a n o w) p p0
  -- a page is released; inside is true for its addresses
  Release : (inside : ℕ → Bool) → MayRelease w inside
      → Transition w p p0 (release_page inside w) p p0

-- a list of transitions, each from the models to which the one before leads
pub data Run : AddressHeap → BirthHeap → BirthHeap → AddressHeap → BirthHeap → BirthHeap → Type 0 where
  End : (w : AddressHeap) (p p0 : BirthHeap) → Run w p p0 w p p0
  Then : (w : AddressHeap) (p p0 : BirthHeap) (v : AddressHeap) (q q0 : BirthHeap) (u : AddressHeap) (r r0 : BirthHeap)
      → Transition w p p0 v q q0 → Run v q q0 u r r0 → Run w p p0 u r r0
