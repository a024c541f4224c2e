-- Workers scan: objects are picked, and fields and globals are marked and written back.
use Rattle.std.proofs.Common.{◌≡◌, ◌≢◌, inr, ℕ, ◌+◌, ◌*◌, ◌%◌, ◌<◌, ◌&&◌, ◌||◌, true, false, not}
use Rattle.std.proofs.Common.{nat_lt, length, set, List, Option, Some, None, refl, sym, ◌∙◌, ap, ap₂, subst, arith}
use Rattle.std.proofs.Common.{is_some}
use mathlib.Core.Path.{fun_ext}
use Rattle.std.specs.List.{slice_get}
use Rattle.std.specs.Option.{option_map}
use Rattle.std.proofs.Math.ListN.{length-set}
use Rattle.std.proofs.lemmas.Bool.{ltb-true, eq-eqb, true≢false, and_parts, not-false}
use Rattle.std.proofs.lemmas.Nat.{div-mul-add, mod-mul-add}
use Rattle.refword.specs.Words.{IsWord}
use Rattle.model.specs.declared.steps.Actor.TheVariants.{Worker}
use Rattle.model.specs.declared.steps.Step.TheVariants as steps
use Rattle.model.specs.declared.steps.Answer.TheVariants as answers
use Rattle.model.specs.declared.records.Global.{Global}
use Rattle.model.specs.declared.records.Scan.{Scan}
use Rattle.model.specs.Phases.{is_marking}
use Rattle.model.specs.Stores.{word_at}
use Rattle.model.specs.Owning.{IsStore}
use Rattle.model.specs.Holding.{IsHeap}
use Rattle.model.specs.States.{HeapState, Reference, flat, change_at}
use Rattle.model.specs.Registers.{register_of}
use Rattle.model.specs.References.{read_reference, field_at, global_of}
use Rattle.model.specs.Bits.{bit_at, bit_on, with_bit}
use Rattle.model.specs.Marks.{with_mark, marked_word}
use Rattle.model.specs.Moves.{copied_for}
use Rattle.model.specs.Checkpoints.{first_behind, none_behind, all_crossed}
use Rattle.model.specs.Scans.{scan_of, with_scan, first_field, next_field, is_scan_of, is_taken, may_scan, pick_outcome}
use Rattle.model.specs.Scans.{reference_in, with_marked_place, mark_place, with_scan_end, scan_next, scan_field_outcome}
use Rattle.model.specs.Scans.{is_todo_in, set_marked_of, with_marked_global, mark_global, scan_global_outcome}
use Rattle.model.specs.Plain.{PlainHeap, plain_step, plain_answer}
use Rattle.model.proofs.Lists.{get_within, get_set_same, get_set_other, each_changed, none_passes}
use Rattle.model.proofs.Tables.{length_changed}
use Rattle.laws.specs.AddressHeap.{AddressHeap, HeapObject, Word, WorkerScan, put, field, current, names}
use Rattle.laws.specs.BirthHeap.{BirthHeap, ref, Start}
use Rattle.laws.specs.Invariant.{IsKept, Invariant}
use Rattle.laws.specs.Edits.{mark_word, set_object, set_scan, end_scan, set_global, end_global_scan}
use Rattle.laws.specs.Edits as edits
use Rattle.laws.specs.Effects.{with_field, scan_field}
use Rattle.laws.specs.Transitions.{IsScanning, Pick, ScanField, ScanEnd, ScanGlobal}
use Rattle.laws.proofs.Basics.{put_all, marked_current}
use Rattle.laws.proofs.CopyWord.{copied_stays}
use Rattle.laws.proofs.Reading.{at}
use Rattle.refinement.specs.Worlds.{world_of, object_at, as_word, as_scan, scan_in, global_in, todo_in, word_in_memory}
use Rattle.refinement.specs.PlainHeaps.{births_of}
use Rattle.refinement.specs.Claims.{IsLaid}
use Rattle.refinement.specs.Standing.{Holds, StepHolds}
use Rattle.refinement.proofs.Accepted.{OnAccepted, on_has, on_some, on_test, on_truth}
use Rattle.refinement.proofs.Carrying.{Carries, RowHolds, and_then, becomes, row_by, stays}
use Rattle.refinement.proofs.Changes.{read_changed}
use Rattle.refinement.proofs.Records.{records_of, records_carry}
use Rattle.refinement.proofs.Marks.{bit_with, rows_with}
use Rattle.refinement.proofs.Copies.{marks_first}
use Rattle.refinement.proofs.Crossings.{none_is_behind}
use Rattle.refinement.proofs.Written.{field_carries, word_there}
use Rattle.refinement.proofs.Loads.{field_is, read_named, global_same}
use Rattle.refinement.proofs.References.{less_is}
use Rattle.refinement.proofs.ObjectWords.{read_fits}
use Rattle.refinement.proofs.Objects.{there}
use Rattle.refinement.proofs.Verdicts.{second_false, field_there, field_past}

-- the scans of workers then
scans : (h : HeapState) (w : ℕ) → w < length h.workers → (c : Option Scan) (u : ℕ)
    → scan_in (slice_get (set h.workers w c) u)
    ≡ put (λ v. scan_in (slice_get h.workers v)) w (option_map as_scan c) u
scans h w low c = let (x, old) = get_within h.workers w low in
    put_all (λ u y. scan_in (slice_get (set h.workers w c) u) ≡ y) (λ v. scan_in (slice_get h.workers v)) w
    (option_map as_scan c) (ap scan_in (get_set_same h.workers w x c old))
    (λ u d. ap scan_in (get_set_other h.workers w u c d))

-- a worker has another object, or none
scan_carries : (h : HeapState) (w : ℕ) → w < length h.workers → (c : Option Scan)
    → Carries h (with_scan h w c) (set_scan w (option_map as_scan c))
unfolding with_scan register_of
scan_carries h w low c = records_carry h (record (records_of h) { workers = set h.workers w c })
    (set_scan w (option_map as_scan c)) (record {
      mark = λ z. z;
      todo = λ z. z;
      threads = refl;
      registers = λ z. z;
      buffers = λ t. refl;
      workers = length-set h.workers w c;
      globals = refl;
    }) (λ z. record { threads = z.threads; globals = z.globals })
    (λ z. record (world_of h) { scan = fun_ext (scans h w low c) z })

-- a mark runs, and all have crossed
pub is_scanning : (h : HeapState) → OnAccepted (λ (u : Unit {0}). IsScanning (world_of h)) (may_scan h)
unfolding may_scan all_crossed
is_scanning h = on_truth (is_marking h.phase) _ _ _ (λ runs. by_found runs (first_behind h.threads) refl)
  where
    by_found : is_marking h.phase ≡ true → (o : Option ℕ) → first_behind h.threads ≡ o
        → OnAccepted (λ (u : Unit {0}). IsScanning (world_of h)) (none_behind o)
    by_found runs (Some t) e = tt
    by_found runs None e = record { runs = runs; crossed = none_is_behind h.threads e }

-- the reference in a global, in the laws' terms
global_is : (h : HeapState) (g : ℕ) → (world_of h).global g ≡ as_word (global_of h g)
unfolding global_of
global_is h g = global_same (slice_get h.globals g)

-- a global gets a reference, and isn't grey
written_global : (h : HeapState) (g : ℕ) (w : Reference) (x : Global) → slice_get h.globals g ≡ Some x → IsWord w
    → Carries h (record h { globals = change_at h.globals g (set_marked_of w) })
    (λ z. end_global_scan g (set_global g (as_word w) z))
unfolding register_of
written_global h g w x at word = records_carry h (record (records_of h) {
  globals = change_at h.globals g (set_marked_of w);
}) (λ z. end_global_scan g (set_global g (as_word w) z)) (record {
  mark = λ z. z;
  todo = λ z. z;
  threads = refl;
  registers = λ z. z;
  buffers = λ t. refl;
  workers = refl;
  globals = length_changed h.globals g (set_marked_of w);
}) (λ z. record {
  threads = z.threads;
  globals = each_changed (λ y. IsWord y.word) h.globals g (set_marked_of w) z.globals (λ y e. word);
}) (λ z. record (world_of h) {
  is_global = fun_ext (λ n. ap (nat_lt n) (length_changed h.globals g (set_marked_of w))) z;
  global = fun_ext (read_changed global_in h.globals g (set_marked_of w) x (as_word w) at refl) z;
  global_todo = fun_ext (read_changed todo_in h.globals g (set_marked_of w) x false at refl) z;
})

-- a global is marked
global_marked : {h : HeapState} {b b0 : BirthHeap} → IsStore h.store → IsLaid h → Invariant (world_of h) b b0
    → is_marking h.phase ≡ true → (g : ℕ) → g < length h.globals → Carries h (mark_global h g)
    (λ w. end_global_scan g (set_global g (edits.marked_word w (w.global g)) (mark_word (w.global g) w)))
unfolding mark_global with_marked_global with_mark
global_marked {h} s l i runs g low =
    let v = global_of h g in
    let same = global_is h g in
    let m = marks_first s l i runs v _ (ap (names (world_of h)) (sym same) ∙ (i.words.globals g).names) in
    let c = copied_for h v in
    let (x, at) = get_within h.globals g low in
    let there : slice_get c.globals g ≡ Some x = ap (λ gs. slice_get gs g) m.copied.globals ∙ at in
    becomes (and_then m.carries (written_global (with_mark c v) g (marked_word c v) x there m.word)) _
    (ap (λ y. end_global_scan g (set_global g y (mark_word (as_word v) (world_of h)))) m.same
    ∙ ap (λ y. end_global_scan g (set_global g (edits.marked_word (world_of h) y) (mark_word y (world_of h))))
    (sym same))

-- a worker's object, in the laws' terms
scan_same : (o : Option (Option Scan)) (c : Scan) → flat o ≡ Some c → scan_in o ≡ Some (as_scan c)
scan_same None c e = absurd (cc)
scan_same (Some s) c e = ap (option_map as_scan) e

-- an object that no worker has
untaken : (h : HeapState) (a l : ℕ) (z : WorkerScan) → is_taken h a ≡ false
    → scan_in (slice_get h.workers l) ≡ Some z → z.address ≢ a
unfolding is_taken
untaken h a l z e has same = by_worker (slice_get h.workers l) refl has
  where
    by_worker : (o : Option (Option Scan)) → slice_get h.workers l ≡ o → scan_in o ≡ Some z → ⊥
    by_worker None f k = absurd (cc)
    by_worker (Some None) f k = absurd (cc)
    by_worker (Some (Some s)) f k =
        let there : s.object ≡ a = cc in
        true≢false (sym (eq-eqb s.object a there)
        ∙ none_passes (is_scan_of a) h.workers e l (Some s) f)

module _ {h : HeapState} {p p0 : PlainHeap} (s : IsStore h.store) (d : IsHeap h) (k : Holds h p p0) (w : ℕ)
    (low : w < length h.workers) where
  -- a worker picks an object
  pub pick_holds : (page offset : ℕ) → RowHolds h p p0 (Worker w) (steps.Pick page offset)
      (pick_outcome h w page offset)
  unfolding pick_outcome plain_step plain_answer
  pick_holds page offset = on_has (may_scan h) _ _ _ (is_scanning h) (λ u i.
      on_test (not (nat_lt offset h.store.words && bit_on h.todo page offset)) _ _ _ (λ e.
      on_test (is_some (scan_of h w) || is_taken h (page * h.store.words + offset)) _ _ _ (λ f.
      let (within, todo) = and_parts (nat_lt offset h.store.words) (bit_on h.todo page offset) (not-false _ e) in
      let a = page * h.store.words + offset in
      let inside : offset < h.store.words = ltb-true offset h.store.words within in
      let set_there : bit_at h.todo h.store.words a ≡ true = ap₂ (bit_on h.todo)
      (div-mul-add page h.store.words offset inside) (mod-mul-add page h.store.words offset inside) ∙ todo in
      let free = second_false (is_some (scan_of h w)) (is_taken h a) f in
      row_by k (scan_carries h w low (Some (first_field a))) (stays h p)
      (Pick w a i set_there (λ l z e. untaken h a l z free e)) tt)))

  module _ (c : Scan) (first : scan_of h w ≡ Some c) (i : IsScanning (world_of h)) where
    has : (world_of h).scan w ≡ Some (as_scan c)
    has = scan_same (slice_get h.workers w) c first

    is_marked : (world_of h).marked c.object ≡ true
    is_marked = k.invariant.marks.todo c.object (k.invariant.marks.scanning w (as_scan c) has)

    here : (q : HeapObject) × (object_at h c.object ≡ Some q)
    here = k.invariant.marks.object c.object is_marked

    -- what a field of the object represents
    stands : (j : ℕ) → names (world_of h) (field here.0 j) ≡ Some (ref (births_of p) here.0.birth j)
    stands j =
        let v = world_of h in
        let now : current v c.object ≡ Some here.0 =
        marked_current v (births_of p) (births_of p0) k.invariant c.object is_marked ∙ here.1 in
        let kept : IsKept v (births_of p) here.0.birth = Start here.0.birth (inr (record {
          address = c.object;
          object = here.0;
          is_marked = is_marked;
          here = here.1;
          birth = refl;
        })) in
        ((at v (births_of p) (births_of p0) k.invariant c.object here.0 now kept).refs j).names

    -- the next field, at a place in memory, is marked and written back
    field_scanned : (n bits : ℕ) → c.next < length here.0.refs → c.object + (1 + c.next) ≡ n
        → word_at h.store n ≡ Some bits → StepHolds h p p0 (Worker w) steps.ScanField
        (with_scan (mark_place h n (read_reference bits)) w (Some (next_field c))) answers.Scanned
    unfolding plain_step plain_answer mark_place with_marked_place with_mark
    field_scanned n bits within spot read =
        let v = read_reference bits in
        let q = here.0 in
        let held : field q c.next ≡ word_in_memory bits =
        field_is h s k.laid c.object q here.1 c.next bits within (ap (word_at h.store) spot ∙ read) in
        let same : field q c.next ≡ as_word v =
        held ∙ read_named h bits _ (ap (names (world_of h)) (sym held) ∙ stands c.next) in
        let m = marks_first s k.laid k.invariant i.runs v _ (ap (names (world_of h)) (sym same) ∙ stands c.next) in
        let g = copied_for h v in
        let still : object_at g c.object ≡ Some q =
        ap (λ (z : AddressHeap). z.object_at c.object) m.copied.carries.world
        ∙ copied_stays (world_of h) (births_of p) (births_of p0) k.invariant i.runs (as_word v) c.object is_marked
        ∙ here.1 in
        let written = field_carries (with_mark g v) m.copied.store (m.carries.laid k.laid) c.object q still c.next n
        (marked_word g v) m.word within spot in
        let passed = scan_carries (with_marked_place g n v) w (subst (λ (ws : List (Option Scan)). w < length ws)
        (sym m.copied.workers) low) (Some (next_field c)) in
        let after : Word → AddressHeap → AddressHeap = λ y z.
        set_scan w (Some (as_scan (next_field c))) (set_object c.object (with_field q c.next y) z) in
        row_by k (becomes (and_then (and_then m.carries written) passed) (scan_field w (as_scan c) q)
        (ap (λ y. after y (mark_word (as_word v) (world_of h))) m.same
        ∙ ap (λ y. after (edits.marked_word (world_of h) y) (mark_word y (world_of h))) (sym same))) (stays h p)
        (ScanField w (as_scan c) q i has here.1 within) tt

    -- the object's scan ends
    end_carries : Carries h (with_scan_end h w c) (end_scan w c.object)
    unfolding with_scan_end with_scan register_of
    end_carries = records_carry h (record (records_of h) {
      todo = with_bit h.todo h.store.words c.object false;
      workers = set h.workers w None;
    }) (end_scan w c.object) (record {
      mark = λ z. z;
      todo = rows_with h h.todo c.object false;
      threads = refl;
      registers = λ z. z;
      buffers = λ t. refl;
      workers = length-set h.workers w None;
      globals = refl;
    }) (λ z. record { threads = z.threads; globals = z.globals }) (λ z. record (world_of h) {
      todo = fun_ext (bit_with h s k.laid h.todo k.laid.todo c.object here.0 here.1 false) z;
      scan = fun_ext (scans h w low None) z;
    })

    object_scanned : field_at h c.object c.next ≡ None
        → StepHolds h p p0 (Worker w) steps.ScanField (with_scan_end h w c) answers.Finished
    unfolding plain_step plain_answer
    object_scanned e = row_by k end_carries (stays h p)
        (ScanEnd w (as_scan c) here.0 i has here.1 (field_past h c.object here.0 here.1 c.next e)) tt

    next_scanned : (o : Option ℕ) → field_at h c.object c.next ≡ o
        → RowHolds h p p0 (Worker w) steps.ScanField (scan_next h w c o)
    next_scanned None e = object_scanned e
    next_scanned (Some n) e =
        let (within, spot) = field_there h c.object here.0 here.1 c.next n e in
        let t = there h c.object here.0 here.1 in
        let fits = read_fits h.config.layouts t.words (c.object % h.store.words) here.0 t.read in
        let (bits, at) = get_within t.words (c.object % h.store.words + (1 + c.next)) (omega (arith, within, fits)) in
        let read : word_at h.store n ≡ Some bits = ap (word_at h.store) (sym spot)
        ∙ word_there h s k.laid c.object here.0 here.1 (1 + c.next) 0 (omega (arith, within)) ∙ at in
        subst (λ v. StepHolds h p p0 (Worker w) steps.ScanField
        (with_scan (mark_place h n v) w (Some (next_field c))) answers.Scanned)
        (ap reference_in (sym read)) (field_scanned n bits within spot read)

  -- a worker scans
  pub scan_field_holds : RowHolds h p p0 (Worker w) steps.ScanField (scan_field_outcome h w)
  unfolding scan_field_outcome
  scan_field_holds = on_has (may_scan h) _ _ _ (is_scanning h) (λ u i. on_some (scan_of h w) _ _ _ (λ c first.
      next_scanned c first i (field_at h c.object c.next) refl))

  -- a global is marked, and written back
  pub scan_global_holds : (g : ℕ) → g < length h.globals
      → RowHolds h p p0 (Worker w) (steps.ScanGlobal g) (scan_global_outcome h g)
  unfolding scan_global_outcome plain_step plain_answer
  scan_global_holds g under = on_has (may_scan h) _ _ _ (is_scanning h) (λ u i.
      on_truth (is_todo_in (slice_get h.globals g)) _ _ _ (λ e.
      row_by k (global_marked s k.laid k.invariant i.runs g under) (stays h p)
      (ScanGlobal g (less_is g (length h.globals) under) i) tt))
