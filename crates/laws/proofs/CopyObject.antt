-- Copying a planned object keeps the invariant.
use Rattle.std.proofs.Common.{◌≡◌, ◌≢◌, ◌⊎◌, ◌≤◌, ◌<◌, inl, inr, ℕ, Bool, true}
use Rattle.std.proofs.Common.{false, Option, Some, None, sym, ◌∙◌, ap, arith}
use Rattle.std.proofs.lemmas.Bool.{cases_eq}
use Rattle.model.specs.declared.records.Phase.TheVariants.{ProtectCrossing}
use Rattle.model.specs.declared.records.PageState.TheVariants.{Closed, Open, From}
use Rattle.model.specs.Stores.{is_protected, has_memory}
use Rattle.model.specs.Phases.{is_marking}
use Rattle.laws.specs.AddressHeap.{AddressHeap, HeapObject, Word, Null, To, field, current, names}
use Rattle.laws.specs.AddressHeap.{Planned, Copied, WorkerScan, LoadPlace, AtField, AtGlobal}
use Rattle.laws.specs.BirthHeap.{BirthHeap, ref, IsRoot, IsReached, Start, Next}
use Rattle.laws.specs.Invariant.{Invariant, StandsFor, IsClean, IsCleanBelow}
use Rattle.laws.specs.Invariant.{IsKept, HasCurrent, IsSeed, IsPlace, IsBarrierFor}
use Rattle.laws.specs.Edits.{copy_object}
use Rattle.laws.proofs.Basics.{reached, barrier_map}

-- the object at a may be copied to n
pub record MayCopy (w : AddressHeap) (a n : ℕ) (o : HeapObject) : Type 0 where
  pub entry : w.side_entry a ≡ Planned n
  pub here : w.object_at a ≡ Some o
  pub phase : w.phase ≢ ProtectCrossing

module _ (w : AddressHeap) (p p0 : BirthHeap) (i : Invariant w p p0) (a n : ℕ) (o : HeapObject)
    (m : MayCopy w a n o) where
  -- a reference represents the same birth
  pub word : (v : Word) (x : Option ℕ) → names w v ≡ Some x → names (copy_object a n o w) v ≡ Some x
  word Null x e = e
  word (To y b) x e = there y b x e
    where
      there : (y : ℕ) (b : Bool) (x : Option ℕ) → names w (To y b) ≡ Some x
          → names (copy_object a n o w) (To y b) ≡ Some x
      there y b x e = grind (
        arith,
        i.objects.planned_open,
        i.objects.planned_from,
        i.objects.planned_free,
        i.objects.copied_open,
        i.objects.copied_from,
        m.entry,
        m.here,
      )

  good : (v : Word) (x : Option ℕ) → StandsFor w v x → StandsFor (copy_object a n o w) v x
  good v x g = record { names = word v x g.names; fits = g.fits }

  -- a marked object stays where it is
  pub marked : (x : ℕ) → w.marked x ≡ true → (copy_object a n o w).object_at x ≡ w.object_at x
  marked x e = let q = (i.marks.object x e).1 in grind (arith, i.objects.planned_free a n m.entry)

  kept : (b : ℕ) → IsKept (copy_object a n o w) p b → IsKept w p b
  kept = reached p.refs (IsSeed (copy_object a n o w) p) (IsKept w p) seed (λ b c j k. Next b c j k)
    where
      seed : (b : ℕ) → IsSeed (copy_object a n o w) p b → IsKept w p b
      seed b (inl r) = Start b (inl r)
      seed b (inr k) = Start b (inr (record {
        address = k.address;
        object = k.object;
        is_marked = k.is_marked;
        here = sym (marked k.address k.is_marked) ∙ k.here;
        birth = k.birth;
      }))

  pub kept_back : (b : ℕ) → IsKept w p b → IsKept (copy_object a n o w) p b
  kept_back = reached p.refs (IsSeed w p) (IsKept (copy_object a n o w) p) seed (λ b c j k. Next b c j k)
    where
      seed : (b : ℕ) → IsSeed w p b → IsKept (copy_object a n o w) p b
      seed b (inl r) = Start b (inl r)
      seed b (inr k) = Start b (inr (record {
        address = k.address;
        object = k.object;
        is_marked = k.is_marked;
        here = marked k.address k.is_marked ∙ k.here;
        birth = k.birth;
      }))

  pub current_new : current (copy_object a n o w) n ≡ Some o
  current_new = grind (arith, i.objects.planned_from, i.objects.planned_open, i.objects.copied_from, m.entry)

  current_old : (x : ℕ) (q : HeapObject) → current w x ≡ Some q → x ≢ a → current (copy_object a n o w) x ≡ Some q
  current_old x q e k = grind (arith, i.objects.planned_free a n m.entry)

  current_was : current w a ≡ Some o
  current_was = grind (arith, m.entry, m.here)

  after : (x : ℕ) (q : HeapObject) → current (copy_object a n o w) x ≡ Some q
      → ((x ≡ n) × (q ≡ o)) ⊎ ((x ≢ n) × (x ≢ a) × (current w x ≡ Some q))
  after x q e = grind (arith, current_new)

  once : (x y : ℕ) (q r : HeapObject) → current (copy_object a n o w) x ≡ Some q
      → current (copy_object a n o w) y ≡ Some r → q.birth ≡ r.birth → x ≡ y
  once x y q r e f b = let c = after x q e in let d = after y r f in grind
      (arith, i.objects.one_current x y q r, i.objects.one_current x a q o, i.objects.one_current y a r o, current_was)

  stands : (b : ℕ) → IsKept (copy_object a n o w) p b → HasCurrent (copy_object a n o w) p b
  stands b k = go (cases_eq s.address a)
    where
      s : HasCurrent w p b
      s = i.words.kept b (kept b k)

      refs : (j : ℕ) → StandsFor (copy_object a n o w) (field s.object j) (ref p b j)
      refs j = good (field s.object j) (ref p b j) (s.refs j)

      go : (s.address ≡ a) ⊎ (s.address ≢ a) → HasCurrent (copy_object a n o w) p b
      go (inl h) = let q : s.object ≡ o = (let x = s.here in let y = current_was in let z = ap (current w) h in cc) in
          let k = i.objects.planned_open a n m.entry in
          record {
            address = n;
            object = s.object;
            here = current_new ∙ ap (λ o. Some o) (sym q);
            birth = s.birth;
            live = λ e. cc;
            entry = λ e. cc;
            layout = s.layout;
            data_words = s.data_words;
            refs_length = s.refs_length;
            refs = refs;
          }
      go (inr h) = record {
        address = s.address;
        object = s.object;
        here = current_old s.address s.object s.here h;
        birth = s.birth;
        live = s.live;
        entry = λ e. ((s.entry e).0, planned s.address (s.entry e).0 h (s.entry e).1);
        layout = s.layout;
        data_words = s.data_words;
        refs_length = s.refs_length;
        refs = refs;
      }
        where
          planned : (x y : ℕ) → x ≢ a → w.side_entry x ≡ Planned y → (copy_object a n o w).side_entry x ≡ Planned y
          planned x y h e = grind arith

  place : (t : ℕ) (d : LoadPlace) → IsPlace w p t d → IsPlace (copy_object a n o w) p t d
  place t (AtGlobal g) h = h
  place t (AtField x j) h = record {
    object = h.object;
    here = current_old x h.object h.here
        (λ e. m.phase (h.page (ap w.page_state e ∙ i.objects.planned_from a n m.entry)).0);
    within = h.within;
    register = h.register;
    held = h.held;
    page = h.page;
  }

  barriers : (t : ℕ) → IsBarrierFor (copy_object a n o w) p t (w.barrier t) (p.pending t)
  barriers t = barrier_map w (copy_object a n o w) p p t (w.barrier t) (p.pending t) word good (place t) (λ r. r)
      (i.words.barriers t)

  registers : (t r : ℕ) → StandsFor (copy_object a n o w) (w.register t r) (p.register t r)
  registers t r = good (w.register t r) (p.register t r) (i.words.registers t r)

  globals : (g : ℕ) → StandsFor (copy_object a n o w) (w.global g) (p.global g)
  globals g = good (w.global g) (p.global g) (i.words.globals g)

  pages : (x : ℕ) (q : HeapObject) → (copy_object a n o w).object_at x ≡ Some q → has_memory (w.page_state x) ≡ true
  pages x q e = grind (arith, i.objects.with_memory, i.objects.planned_open, m.entry)

  births : (x : ℕ) (q : HeapObject) → (copy_object a n o w).object_at x ≡ Some q → q.birth < w.births
  births x q e = grind (arith, i.objects.births, m.here)

  planned_from : (x y : ℕ) → (copy_object a n o w).side_entry x ≡ Planned y → w.page_state x ≡ From
  planned_from x y e = grind (arith, i.objects.planned_from)

  planned_object : (x y : ℕ) → (copy_object a n o w).side_entry x ≡ Planned y
      → (q : HeapObject) × ((copy_object a n o w).object_at x ≡ Some q)
  planned_object x y e =
      let q = i.objects.planned_object x y (was x y e) in (q.0, there x q.0 q.1 (i.objects.planned_free a n m.entry))
    where
      was : (x y : ℕ) → (copy_object a n o w).side_entry x ≡ Planned y → w.side_entry x ≡ Planned y
      was x y e = grind arith

      there : (x : ℕ) (q : HeapObject) → w.object_at x ≡ Some q → w.object_at n ≡ None
          → (copy_object a n o w).object_at x ≡ Some q
      there x q e f = grind arith

  planned_open : (x y : ℕ) → (copy_object a n o w).side_entry x ≡ Planned y → w.page_state y ≡ Open
  planned_open x y e = grind (arith, i.objects.planned_open)

  planned_free : (x y : ℕ) → (copy_object a n o w).side_entry x ≡ Planned y → (copy_object a n o w).object_at y ≡ None
  planned_free x y e = grind (arith, i.objects.planned_free, i.objects.planned_once, m.entry)

  planned_once : (x y z : ℕ) → (copy_object a n o w).side_entry x ≡ Planned z
      → (copy_object a n o w).side_entry y ≡ Planned z → x ≡ y
  planned_once x y z e f = grind (arith, i.objects.planned_once x y z)

  copied_from : (x y : ℕ) → (copy_object a n o w).side_entry x ≡ Copied y → is_protected (w.page_state x) ≡ true
  copied_from x y e = grind (arith, i.objects.copied_from, i.objects.planned_from, m.entry)

  copied_open : (x y : ℕ) → (copy_object a n o w).side_entry x ≡ Copied y → w.page_state y ≡ Open
  copied_open x y e = grind (arith, i.objects.copied_open, i.objects.planned_open, m.entry)

  live_object : (x : ℕ) → w.page_state x ≡ Closed → w.live x ≡ true
      → (q : HeapObject) × ((copy_object a n o w).object_at x ≡ Some q)
  live_object x e f = let q = i.objects.live_object x e f in (q.0, stays x q.0 q.1 e)
    where
      stays : (x : ℕ) (q : HeapObject) → w.object_at x ≡ Some q → w.page_state x ≡ Closed
          → (copy_object a n o w).object_at x ≡ Some q
      stays x q e k = grind (arith, i.objects.planned_open, m.entry)

  mark_object : (x : ℕ) → w.marked x ≡ true → (q : HeapObject) × ((copy_object a n o w).object_at x ≡ Some q)
  mark_object x e = let q = i.marks.object x e in (q.0, marked x e ∙ q.1)

  scanned : (x : ℕ) (q : HeapObject) (j : ℕ) → w.marked x ≡ true → w.todo x ≡ false
      → (copy_object a n o w).object_at x ≡ Some q → IsClean w (field q j)
  scanned x q j e f h = i.marks.scanned x q j e f (sym (marked x e) ∙ h)

  passed : (k : ℕ) (s : WorkerScan) → w.scan k ≡ Some s → IsCleanBelow (copy_object a n o w) s.address s.next
  passed k s e q j h =
      i.marks.passed k s e q j (sym (marked s.address (i.marks.todo s.address (i.marks.scanning k s e))) ∙ h)

  uncopied : (x y : ℕ) → w.phase ≡ ProtectCrossing → (copy_object a n o w).side_entry x ≡ Copied y → ⊥
  uncopied x y e = absurd (m.phase e)

  since : is_marking w.phase ≡ true → (b : ℕ) → IsKept (copy_object a n o w) p b
      → IsReached p0.refs (IsRoot p0) b ⊎ (p0.births ≤ b)
  since e b k = i.since e b (kept b k)

  pub copy_object_keeps : Invariant (copy_object a n o w) p p0
  copy_object_keeps = assumption (
    registers,
    globals,
    barriers,
    stands,
    once,
    pages,
    births,
    planned_from,
    planned_object,
    planned_open,
    planned_free,
    planned_once,
    copied_from,
    copied_open,
    live_object,
    mark_object,
    scanned,
    passed,
    uncopied,
    since,
    i,
  )
