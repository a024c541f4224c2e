-- The steps of a worker, and the crossing of a mark, keep the invariant.
use Rattle.std.proofs.Common.{◌≡◌, ◌≢◌, ◌⊎◌, ◌<◌, ◌≤◌, ◌+◌, inl, inr, ℕ, zero, suc, Bool, true, false}
use Rattle.std.proofs.Common.{cond, Some, None, length, get_or, set, refl, sym, ◌∙◌, ap, subst, arith}
use Rattle.std.proofs.lemmas.List.{set-get_or, get_or_past}
use Rattle.std.proofs.lemmas.Bool.{cases_eq, cases_lt}
use Rattle.model.specs.declared.records.Phase.{Phase}
use Rattle.model.specs.declared.records.Phase.TheVariants.{MarkCrossing, Scanning, ProtectCrossing, Relocating}
use Rattle.model.specs.Phases.{is_marking, is_crossing}
use Rattle.laws.specs.AddressHeap.{AddressHeap, HeapObject, Word, Null, To, put, put_at}
use Rattle.laws.specs.AddressHeap.{field, current, resolve, Planned, WorkerScan}
use Rattle.laws.specs.BirthHeap.{BirthHeap, ref, Start, Next}
use Rattle.laws.specs.Invariant.{IsKept, IsClean, Invariant}
use Rattle.laws.specs.Edits.{set_object, set_global, end_global_scan, set_scan, end_scan}
use Rattle.laws.specs.Edits.{mark_word, todo_after, marked_word, clean_word, copy_word, copy_object, cross_checkpoint}
use Rattle.laws.specs.Effects.{with_field, mark_register, mark_registers, scan_field}
use Rattle.laws.proofs.Basics.{put_id, put_at_id, put_all, put_same, put_other, marked_current}
use Rattle.laws.proofs.Reading.{at, mark_word_keeps, global_kept, register_kept, set_at}
use Rattle.laws.proofs.CopyObject.{copy_object_keeps}
use Rattle.laws.proofs.CopyWord.{copied_stays}
use Rattle.laws.proofs.Globals.{set_global_keeps, end_global_scan_keeps}
use Rattle.laws.proofs.Mutators.{write_field, set_register_keeps}
use Rattle.laws.proofs.Scans.{set_scan_keeps, end_scan_keeps}
use Rattle.laws.proofs.Crossings.{next_phase, cross_keeps}

-- Pick
pub pick_keeps : (w : AddressHeap) (p p0 : BirthHeap) → Invariant w p p0 → (k a : ℕ) → w.phase ≡ Scanning
    → w.todo a ≡ true → ((l : ℕ) (z : WorkerScan) → w.scan l ≡ Some z → z.address ≢ a)
    → Invariant (set_scan k (Some (record { address = a; next = 0 })) w) p p0
pick_keeps w p p0 i k a e h f = set_scan_keeps w p p0 i k (record { address = a; next = 0 }) (record {
  phase = e;
  todo = h;
  passed = λ o j x l. absurd (omega arith);
  alone = λ l z _ g. f l z g;
})

still_todo : (v : Word) (w : AddressHeap) (a : ℕ) → w.todo a ≡ true → todo_after v w a ≡ true
still_todo Null w a e = e
still_todo (To y n) w a e = go (cases_eq a (resolve w y))
  where
    pick : (b c : Bool) → c ≡ true → cond b c true ≡ true
    pick true c h = h
    pick false c h = refl

    go : (a ≡ resolve w y) ⊎ (a ≢ resolve w y) → todo_after (To y n) w a ≡ true
    go (inl h) = ap (todo_after (To y n) w) h
        ∙ put_same w.todo (resolve w y) (cond (w.marked (resolve w y)) (w.todo (resolve w y)) true)
        ∙ pick (w.marked (resolve w y)) (w.todo (resolve w y)) (ap w.todo (sym h) ∙ e)
    go (inr h) = put_other w.todo (resolve w y) (cond (w.marked (resolve w y)) (w.todo (resolve w y)) true) a h ∙ e

-- ScanField
pub scan_field_keeps : (w : AddressHeap) (p p0 : BirthHeap) → Invariant w p p0
    → (k : ℕ) (s : WorkerScan) (o : HeapObject) → w.phase ≡ Scanning → w.scan k ≡ Some s
    → w.object_at s.address ≡ Some o → s.next < length o.refs → Invariant (scan_field k s o w) p p0
scan_field_keeps w p p0 i k s o e f h l =
    let a = s.address in
    let j = s.next in
    let b = o.birth in
    let v = field o j in
    let v' = marked_word w v in
    let m : w.marked a ≡ true = i.marks.todo a (i.marks.scanning k s f) in
    let c : current w a ≡ Some o = marked_current w p p0 i a m ∙ h in
    let g : IsKept w p b = Start b (inr (record { address = a; object = o; is_marked = m; here = h; birth = refl })) in
    let x = at w p p0 i a o c g in
    let r = mark_word_keeps w p p0 i (ap is_marking e) v (ref p b j) (x.refs j).names (λ d. Next b d j g) in
    let w1 = mark_word v w in
    let t1 : w1.todo a ≡ true = still_todo v (copy_word v w) a (i.marks.scanning k s f) in
    let m1 : w1.marked a ≡ true = r.inv.marks.todo a t1 in
    let h1 : w1.object_at a ≡ Some o = copied_stays w p p0 i (ap is_marking e) v a m ∙ h in
    let c1 : current w1 a ≡ Some o = marked_current w1 p p0 r.inv a m1 ∙ h1 in
    let g1 : IsKept w1 p b = Start b (inr (record {
      address = a;
      object = o;
      is_marked = m1;
      here = h1;
      birth = refl;
    })) in
    let u : Invariant (set_object a (with_field o j v') w1) p p0 =
    subst (λ y. Invariant (set_object a (with_field o j v') w1) (record p { refs = y }) p0)
    (put_id p.refs b (set (p.refs b) j (ref p b j)) (sym (set-get_or (p.refs b) j None)))
    (subst (λ y. Invariant (set_object a (with_field o j v') w1) (record p {
      refs = put p.refs b (set (p.refs b) j (ref p b j));
      data_words = y;
    }) p0) (put_id p.data_words b (p.data_words b) refl)
    (write_field w1 p p0 r.inv a o j v' (ref p b j) c1 g1 l r.good (λ d. Next b d j g1) (λ _. r.clean))) in
    set_scan_keeps (set_object a (with_field o j v') w1) p p0 u k (record { address = a; next = j + 1 }) (record {
      phase = e;
      todo = t1;
      passed = λ q n y z. subst (λ q. IsClean w (field q n))
          (let t = put_same w1.object_at a (Some (with_field o j v')) in let t' : with_field o j v' ≡ q = cc in t')
          (below n z (set_at o.refs j n v' Null l) r.clean);
      alone = λ n z y q t. y (i.marks.alone n k z s q f t);
    })
  where
    below : (n : ℕ) → n < s.next + 1
        → ((n ≡ s.next)
        × (get_or (set o.refs s.next (marked_word w (field o s.next))) n Null ≡ marked_word w (field o s.next)))
        ⊎ ((n ≢ s.next) × (get_or (set o.refs s.next (marked_word w (field o s.next))) n Null ≡ field o n))
        → IsClean w (marked_word w (field o s.next))
        → IsClean w (field (with_field o s.next (marked_word w (field o s.next))) n)
    below n z (inl y) c = subst (IsClean w) (sym y.1) c
    below n z (inr y) c = subst (IsClean w) (sym y.1) (i.marks.passed k s f o n h (let t = y.0 in omega arith))

-- ScanField, if no field is left
pub scan_end_keeps : (w : AddressHeap) (p p0 : BirthHeap) → Invariant w p p0
    → (k : ℕ) (s : WorkerScan) (o : HeapObject) → w.phase ≡ Scanning → w.scan k ≡ Some s
    → w.object_at s.address ≡ Some o → length o.refs ≤ s.next → Invariant (end_scan k s.address w) p p0
scan_end_keeps w p p0 i k s o e f h l = end_scan_keeps w p p0 i k s (record {
  phase = e;
  scan = f;
  past_end = λ q j y z. subst (λ q. field q j ≡ Null) (let t : o ≡ q = cc in t)
      (get_or_past o.refs j Null (let a = l in let b = z in omega arith));
})

-- ScanGlobal
pub scan_global_keeps : (w : AddressHeap) (p p0 : BirthHeap) → Invariant w p p0 → (g : ℕ) → w.is_global g ≡ true
    → w.phase ≡ Scanning
    → Invariant (end_global_scan g (set_global g (marked_word w (w.global g)) (mark_word (w.global g) w))) p p0
scan_global_keeps w p p0 i g n e =
    let v = w.global g in
    let r = mark_word_keeps w p p0 i (ap is_marking e) v (p.global g) (i.words.globals g).names (global_kept w p g) in
    let w1 = mark_word v w in
    let w2 = set_global g (marked_word w v) w1 in
    let j : Invariant w2 p p0 =
    subst (λ y. Invariant w2 (record p { global = y }) p0) (put_id p.global g (p.global g) refl)
    (set_global_keeps w1 p p0 r.inv g (marked_word w v) (p.global g) (record {
      good = r.good;
      kept = global_kept w1 p g;
      clean = λ _. r.clean;
    }) n) in
    end_global_scan_keeps w2 p p0 j g e (subst (IsClean w) (sym (put_same w.global g (marked_word w v))) r.clean)

-- Copy, once all have crossed
pub copy_step_keeps : (w : AddressHeap) (p p0 : BirthHeap) → Invariant w p p0 → (a n : ℕ) (o : HeapObject)
    → w.phase ≢ ProtectCrossing → w.side_entry a ≡ Planned n → w.object_at a ≡ Some o
    → Invariant (copy_object a n o w) p p0
copy_step_keeps w p p0 i a n o c e h = copy_object_keeps w p p0 i a n o (record { entry = e; here = h; phase = c })

-- the mark checkpoint marks a register
mark_register_keeps : (w : AddressHeap) (p p0 : BirthHeap) → Invariant w p p0 → (t r : ℕ) → is_marking w.phase ≡ true
    → w.barrier t ≡ None → Invariant (mark_register t r w) p p0
mark_register_keeps w p p0 i t r m e =
    let v = w.register t r in
    let q = mark_word_keeps w p p0 i m v (p.register t r) (i.words.registers t r).names (register_kept w p t r) in
    subst (λ y. Invariant (mark_register t r w) (record p { register = y }) p0)
    (put_at_id p.register t r (p.register t r) refl)
    (set_register_keeps (mark_word v w) p p0 q.inv t r (marked_word w v) (p.register t r) e q.good
    (register_kept (mark_word v w) p t r) (λ _ _. q.clean))

-- what holds after the registers below n are marked
pub record CrossedBelow (w : AddressHeap) (p p0 : BirthHeap) (t n : ℕ) (w' : AddressHeap) : Type 0 where
  pub inv : Invariant w' p p0
  pub phase : w'.phase ≡ w.phase
  pub nmt : w'.nmt ≡ w.nmt
  pub barrier : w'.barrier ≡ w.barrier
  pub crossed : w'.crossed ≡ w.crossed
  pub clean : (r : ℕ) → r < n → IsClean w' (w'.register t r)
  pub rest : (r : ℕ) → n ≤ r → w'.register t r ≡ w.register t r

marked_clean : (w : AddressHeap) (v : Word) → IsClean w (clean_word w v)
marked_clean w Null a n e = cc
marked_clean w (To y b) a n e = let z = e in cc

pub mark_registers_keeps : (w : AddressHeap) (p p0 : BirthHeap) → Invariant w p p0 → (t : ℕ)
    → is_marking w.phase ≡ true → w.barrier t ≡ None → (n : ℕ) → CrossedBelow w p p0 t n (mark_registers t n w)
mark_registers_keeps w p p0 i t m e zero = record {
  inv = i;
  phase = refl;
  nmt = refl;
  barrier = refl;
  crossed = refl;
  clean = λ r l. absurd (omega arith);
  rest = λ r l. refl;
}
mark_registers_keeps w p p0 i t m e (suc n) =
    let h = mark_registers_keeps w p p0 i t m e n in
    let u = mark_registers t n w in
    let v = u.register t n in
    record {
      inv = mark_register_keeps u p p0 h.inv t n (ap is_marking h.phase ∙ m) (ap (λ f. f t) h.barrier ∙ e);
      phase = h.phase;
      nmt = h.nmt;
      barrier = h.barrier;
      crossed = h.crossed;
      clean = clean u v h.clean;
      rest = λ r l. (let x : r ≢ n = omega arith in
          ap (λ f. f r) (put_same u.register t (put (u.register t) n (marked_word u v)))
          ∙ put_other (u.register t) n (marked_word u v) r x ∙ h.rest r (omega arith));
    }
  where
    clean : (u : AddressHeap) (v : Word) → ((r : ℕ) → r < n → IsClean u (u.register t r)) → (r : ℕ) → r < suc n
        → IsClean u (put_at u.register t n (marked_word u v) t r)
    clean u v h r l =
        subst (IsClean u) (sym (ap (λ f. f r) (put_same u.register t (put (u.register t) n (marked_word u v)))))
        (put_all (λ r y. r < suc n → IsClean u y) (u.register t) n (marked_word u v)
        (λ _. marked_clean (copy_word v u) v)
        (λ r x l. h r (omega arith)) r l)

-- Cross at the mark checkpoint: of n registers, and the phase f after it
pub cross_mark_keeps : (w : AddressHeap) (p p0 : BirthHeap) → Invariant w p p0 → (t n : ℕ) (f : Phase)
    → w.phase ≡ MarkCrossing → w.barrier t ≡ None → ((r : ℕ) → n ≤ r → w.register t r ≡ Null)
    → ((f ≡ MarkCrossing) × (u : ℕ) × (u ≢ t) × (w.crossed u ≡ false))
    ⊎ ((f ≡ Scanning) × ((u : ℕ) → u ≢ t → w.crossed u ≡ true))
    → Invariant (cross_checkpoint t f (mark_registers t n w)) p p0
cross_mark_keeps w p p0 i t n f e b z x =
    let h = mark_registers_keeps w p p0 i t (ap is_marking e) b n in
    let u = mark_registers t n w in
    cross_keeps u p p0 h.inv t f (record {
      opened = ap is_crossing (h.phase ∙ e);
      barrier = ap (λ g. g t) h.barrier ∙ b;
      clean = λ _ r. clean u h r (cases_lt r n);
      next = elim x [
        | inl y ↦ inl (y.0 ∙ sym (h.phase ∙ e), y.1, y.2, ap (λ g. g y.1) h.crossed ∙ y.3)
        | inr y ↦ inr (y.0 ∙ sym (ap next_phase (h.phase ∙ e)), (λ s k. ap (λ g. g s) h.crossed ∙ y.1 s k))
      ];
    })
  where
    clean : (u : AddressHeap) → CrossedBelow w p p0 t n u → (r : ℕ) → (r < n) ⊎ (n ≤ r) → IsClean u (u.register t r)
    clean u h r (inl l) = h.clean r l
    clean u h r (inr l) = λ a b k. (let y = h.rest r l in let x = z r l in cc)

-- Cross at the protect checkpoint
pub cross_protect_keeps : (w : AddressHeap) (p p0 : BirthHeap) → Invariant w p p0 → (t : ℕ) (f : Phase)
    → w.phase ≡ ProtectCrossing → w.barrier t ≡ None
    → ((f ≡ ProtectCrossing) × (u : ℕ) × (u ≢ t) × (w.crossed u ≡ false))
    ⊎ ((f ≡ Relocating) × ((u : ℕ) → u ≢ t → w.crossed u ≡ true)) → Invariant (cross_checkpoint t f w) p p0
cross_protect_keeps w p p0 i t f e b x = cross_keeps w p p0 i t f (record {
  opened = ap is_crossing e;
  barrier = b;
  clean = λ g. cc;
  next = elim x [ inl y ↦ inl (y.0 ∙ sym e, y.1, y.2, y.3) | inr y ↦ inr (y.0 ∙ sym (ap next_phase e), y.1) ];
})
