-- The steps of a barrier keep the invariant.
use Rattle.std.proofs.Common.{◌≡◌, ◌≢◌, ◌⊎◌, ◌<◌, inl, inr, ℕ, Bool, true, false, not, cond}
use Rattle.std.proofs.Common.{Option, Some, None, length, set, refl, sym, ◌∙◌, ap, subst}
use Rattle.std.proofs.lemmas.List.{set-get_or}
use Rattle.model.specs.declared.records.Phase.{Phase}
use Rattle.model.specs.declared.records.Phase.TheVariants.{MarkCrossing, Scanning, ProtectCrossing}
use Rattle.model.specs.declared.records.PageState.{PageState}
use Rattle.model.specs.declared.records.PageState.TheVariants.{From, Gone}
use Rattle.model.specs.Stores.{is_protected, has_memory}
use Rattle.model.specs.Phases.{is_marking, is_crossing, may_nmt_trap, same_bit}
use Rattle.laws.specs.AddressHeap.{AtGlobal, AddressHeap, HeapObject, Word, Null, To, put}
use Rattle.laws.specs.AddressHeap.{field, current, resolve, resolve_by, names, birth_of}
use Rattle.laws.specs.AddressHeap.{OpenBarrier, AtField, SideEntry, NoEntry, Planned, Copied}
use Rattle.laws.specs.BirthHeap.{BirthHeap, ref, InPending, Start, Next}
use Rattle.laws.specs.Invariant.{IsKept, IsClean, StandsFor, Invariant, IsBarrierFor, IsPlace}
use Rattle.laws.specs.Edits.{set_object, end_load, plain_end_load, set_barrier}
use Rattle.laws.specs.Edits.{set_global, copy_object, mark_word, marked_word}
use Rattle.laws.specs.Effects.{finish_at, plain_finish, set_register, with_field, nmt_trap_due}
use Rattle.laws.proofs.Basics.{put_id, put_at_id, current_there, unmoved, put_same}
use Rattle.laws.proofs.Reading.{named, register_kept, global_kept, at, mark_word_keeps}
use Rattle.laws.proofs.CopyObject.{copy_object_keeps}
use Rattle.laws.proofs.EndLoad.{end_load_keeps}
use Rattle.laws.proofs.SetBarrier.{set_barrier_keeps}
use Rattle.laws.proofs.Globals.{set_global_keeps}
use Rattle.laws.proofs.Mutators.{write_field, set_register_keeps}

-- the pending load of an open barrier
pub record OpenLoad (w : AddressHeap) (p : BirthHeap) (t : ℕ) (k : OpenBarrier) : Type 0 where
  pub pending : ℕ × Option ℕ
  pub is : p.pending t ≡ Some pending
  pub barrier : IsBarrierFor w p t (Some k) (Some pending)

opened_by :
    (w : AddressHeap) (p : BirthHeap) (t : ℕ) (k : OpenBarrier) (x : Option OpenBarrier) (y : Option (ℕ × Option ℕ))
    → p.pending t ≡ y → IsBarrierFor w p t x y → x ≡ Some k → OpenLoad w p t k
opened_by w p t k None y f h e = cc
opened_by w p t k (Some l) None f h e = absurd h
opened_by w p t k (Some l) (Some q) f h e = let z : l ≡ k = cc in
    record { pending = q; is = f; barrier = subst (λ z. IsBarrierFor w p t (Some z) (Some q)) z h }

pub opened_of : (w : AddressHeap) (p p0 : BirthHeap) → Invariant w p p0 → (t : ℕ) (k : OpenBarrier)
    → w.barrier t ≡ Some k → OpenLoad w p t k
opened_of w p p0 i t k e = opened_by w p t k (w.barrier t) (p.pending t) refl (i.words.barriers t) e

pub pending_kept : (w : AddressHeap) (p : BirthHeap) (t : ℕ) (k : OpenBarrier) (h : OpenLoad w p t k) (b : ℕ)
    → h.pending.1 ≡ Some b → IsKept w p b
pending_kept w p t k h b e = Start b (inl (InPending t h.pending.0 (h.is ∙ ap (λ x. Some (h.pending.0, x)) e)))

-- a barrier changes, and its load doesn't
pub change_keeps : (w : AddressHeap) (p p0 : BirthHeap) → Invariant w p p0
    → (t : ℕ) (k l : OpenBarrier) (h : OpenLoad w p t k) → IsBarrierFor w p t (Some l) (Some h.pending)
    → Invariant (set_barrier t l w) p p0
change_keeps w p p0 i t k l h b =
    subst (λ y. Invariant (set_barrier t l w) (record p { pending = y }) p0) (put_id p.pending t (Some h.pending) h.is)
    (set_barrier_keeps w p p0 i t l h.pending (record { barrier = b; kept = pending_kept w p t k h }))

-- if no NMT trap is due, a crossed thread's reference is clean
pub clean_now : (w : AddressHeap) (t : ℕ) (v : Word) → nmt_trap_due w t v ≡ false → is_marking w.phase ≡ true
    → w.crossed t ≡ true → IsClean w v
clean_now w t Null d m c a n e = cc
clean_now w t (To a n) d m c b l e = let x : n ≡ l = cc in sym x ∙ go (w.phase) refl
  where
    same : (x y : Bool) → not (same_bit x y) ≡ false → x ≡ y
    same true true e = refl
    same false false e = refl
    same true false e = cc
    same false true e = cc

    go : (f : Phase) → w.phase ≡ f → n ≡ w.nmt
    go Scanning f =
        same n w.nmt (ap (λ f. cond (may_nmt_trap f (w.crossed t)) (not (same_bit n w.nmt)) false) (sym f) ∙ d)
    go MarkCrossing f = same n w.nmt (ap (λ c. cond c (not (same_bit n w.nmt)) false) (sym c)
        ∙ ap (λ f. cond (may_nmt_trap f (w.crossed t)) (not (same_bit n w.nmt)) false) (sym f) ∙ d)
    go _ f = let z = ap is_marking f in cc

pub clean_scan : (w : AddressHeap) (p p0 : BirthHeap) → Invariant w p p0 → (t : ℕ) (v : Word)
    → nmt_trap_due w t v ≡ false → w.phase ≡ Scanning → IsClean w v
clean_scan w p p0 i t v d e = clean_now w t v d (ap is_marking e) (i.phases.crossed (ap is_crossing e) t)

-- the entry of a protected address in a reference to a kept birth
pub entry_of : (w : AddressHeap) (p p0 : BirthHeap) → Invariant w p p0 → (a : ℕ) (n : Bool) (x : Option ℕ)
    → names w (To a n) ≡ Some x → ((b : ℕ) → x ≡ Some b → IsKept w p b) → is_protected (w.page_state a) ≡ true
    → ((z : ℕ) × (w.side_entry a ≡ Planned z)) ⊎ ((z : ℕ) × (w.side_entry a ≡ Copied z))
entry_of w p p0 i a n x e k h = go (w.side_entry a) refl
  where
    at_page : (f : SideEntry) → w.side_entry a ≡ f → resolve_by f a ≡ a → (g : PageState) → w.page_state a ≡ g
        → is_protected g ≡ true → (z : ℕ) × (w.side_entry a ≡ Planned z)
    at_page f c r From g _ = let d = named w a n x e in
        (at w p p0 i a d.object (ap (current w) (sym (ap (λ f. resolve_by f a) c ∙ r)) ∙ d.here)
        (k d.object.birth d.birth)).entry g
    at_page f c r Gone g _ = let d = named w a n x e in let o = i.objects.with_memory a d.object
        (current_there w a d.object (ap (current w) (sym (ap (λ f. resolve_by f a) c ∙ r)) ∙ d.here)) in
        let z = ap has_memory g in cc
    at_page f c r _ g u = cc

    go : (f : SideEntry) → w.side_entry a ≡ f
        → ((z : ℕ) × (w.side_entry a ≡ Planned z)) ⊎ ((z : ℕ) × (w.side_entry a ≡ Copied z))
    go NoEntry c = inl (at_page NoEntry c refl (w.page_state a) refl h)
    go (Planned z) c = inl (z, c)
    go (Copied z) c = inr (z, c)

-- a corrected reference represents the same birth
pub moved_good : (w : AddressHeap) (p p0 : BirthHeap) → Invariant w p p0 → (a n : ℕ) (b : Bool) (x : Option ℕ)
    → w.side_entry a ≡ Copied n → StandsFor w (To a b) x → StandsFor w (To n b) x
moved_good w p p0 i a n b x f g =
    let k = i.objects.copied_open a n f in
    let r : resolve w n ≡ n = unmoved w i.objects n (ap is_protected k) (w.side_entry n) refl in
    record {
      names = ap (λ z. birth_of (current w z)) (r ∙ ap (λ f. resolve_by f a) (sym f)) ∙ g.names;
      fits = record {
        outside = λ e y c h. g.fits.outside e a c (let z = h in cc);
        inside = λ y e h. absurd (let z = i.marks.unprotected a (g.fits.inside a e (let u = h in cc)) in
            let y = i.objects.copied_from a n f in cc);
      };
    }

-- Trap, for a GC trap whose object was copied
pub trap_moved_keeps : (w : AddressHeap) (p p0 : BirthHeap) → Invariant w p p0
    → (t : ℕ) (k : OpenBarrier) (a n : ℕ) (b : Bool) → w.barrier t ≡ Some k → k.now ≡ To a b
    → w.side_entry a ≡ Copied n → Invariant (set_barrier t (record k { now = To n b }) w) p p0
trap_moved_keeps w p p0 i t k a n b e v f =
    let h = opened_of w p p0 i t k e in
    change_keeps w p p0 i t k (record k { now = To n b }) h (record {
      target = h.barrier.target;
      raw = h.barrier.raw;
      now = moved_good w p p0 i a n b h.pending.1 f (subst (λ v. StandsFor w v h.pending.1) v h.barrier.now);
      place = h.barrier.place;
      running = h.barrier.running;
    })

-- Trap, for a GC trap whose object wasn't copied
pub trap_copied_keeps : (w : AddressHeap) (p p0 : BirthHeap) → Invariant w p p0
    → (t : ℕ) (k : OpenBarrier) (a n : ℕ) (b : Bool) (o : HeapObject) → w.barrier t ≡ Some k → k.now ≡ To a b
    → w.side_entry a ≡ Planned n → w.object_at a ≡ Some o → w.phase ≢ ProtectCrossing
    → Invariant (set_barrier t (record k { now = To n b }) (copy_object a n o w)) p p0
trap_copied_keeps w p p0 i t k a n b o e v f h g =
    trap_moved_keeps (copy_object a n o w) p p0 (copy_object_keeps w p p0 i a n o
    (record { entry = f; here = h; phase = g })) t k a n b e v (put_same w.side_entry a (Copied n))

-- Trap, for an NMT trap
pub trap_marked_keeps : (w : AddressHeap) (p p0 : BirthHeap) → Invariant w p p0 → (t : ℕ) (k : OpenBarrier)
    → w.barrier t ≡ Some k → is_marking w.phase ≡ true
    → Invariant (set_barrier t (record k { now = marked_word w k.now }) (mark_word k.now w)) p p0
trap_marked_keeps w p p0 i t k e m =
    let h = opened_of w p p0 i t k e in
    let r = mark_word_keeps w p p0 i m k.now h.pending.1 h.barrier.now.names (pending_kept w p t k h) in
    let h' = opened_of (mark_word k.now w) p p0 r.inv t k e in
    let same : h'.pending ≡ h.pending = (let x = h'.is in let y = h.is in cc) in
    change_keeps (mark_word k.now w) p p0 r.inv t k (record k { now = marked_word w k.now }) h' (record {
      target = h'.barrier.target;
      raw = h'.barrier.raw;
      now = subst (λ q. StandsFor (mark_word k.now w) (marked_word w k.now) q.1) (sym same) r.good;
      place = h'.barrier.place;
      running = h'.barrier.running;
    })

-- Heal, if a global still has the reference that was loaded
pub heal_global_keeps : (w : AddressHeap) (p p0 : BirthHeap) → Invariant w p p0 → (t : ℕ) (k : OpenBarrier) (g : ℕ)
    → w.barrier t ≡ Some k → k.place ≡ AtGlobal g → w.global g ≡ k.raw → nmt_trap_due w t k.now ≡ false
    → Invariant (set_barrier t (record k { healed = true }) (set_global g k.now w)) p p0
heal_global_keeps w p p0 i t k g e l r d =
    let h = opened_of w p p0 i t k e in
    let same : p.global g ≡ h.pending.1 =
    (let x = (i.words.globals g).names in let y = h.barrier.raw in let z = ap (names w) r in cc) in
    let j : Invariant (set_global g k.now w) p p0 = subst
    (λ y. Invariant (set_global g k.now w) (record p { global = y }) p0) (put_id p.global g (p.global g) refl)
    (set_global_keeps w p p0 i g k.now (p.global g) (record {
      good = subst (StandsFor w k.now) (sym same) h.barrier.now;
      kept = global_kept w p g;
      clean = clean_scan w p p0 i t k.now d;
    }) (subst (IsPlace w p t) l h.barrier.place)) in
    let h' = opened_of (set_global g k.now w) p p0 j t k e in
    change_keeps (set_global g k.now w) p p0 j t k (record k { healed = true }) h' (record {
      target = h'.barrier.target;
      raw = h'.barrier.raw;
      now = h'.barrier.now;
      place = h'.barrier.place;
      running = h'.barrier.running;
    })

-- Heal, if a field still has it
pub heal_field_keeps : (w : AddressHeap) (p p0 : BirthHeap) → Invariant w p p0
    → (t : ℕ) (k : OpenBarrier) (a j : ℕ) (o : HeapObject) → w.barrier t ≡ Some k → k.place ≡ AtField a j
    → w.object_at a ≡ Some o → field o j ≡ k.raw → nmt_trap_due w t k.now ≡ false
    → Invariant (set_barrier t (record k { healed = true }) (set_object a (with_field o j k.now) w)) p p0
heal_field_keeps w p p0 i t k a j o e l f r d =
    let h = opened_of w p p0 i t k e in
    let y : IsPlace w p t (AtField a j) = subst (IsPlace w p t) l h.barrier.place in
    let q : y.object ≡ o = (let z = current_there w a y.object y.here in cc) in
    let c : current w a ≡ Some o = y.here ∙ ap (λ z. Some z) q in
    let b = register_kept w p t y.register o.birth (y.held ∙ ap (λ z. Some z.birth) q) in
    let s = at w p p0 i a o c b in
    let same : ref p o.birth j ≡ h.pending.1 =
    (let x = (s.refs j).names in let y = h.barrier.raw in let z = ap (names w) r in cc) in
    let u : Invariant (set_object a (with_field o j k.now) w) p p0 =
    subst (λ y. Invariant (set_object a (with_field o j k.now) w) (record p { refs = y }) p0)
    (put_id p.refs o.birth (set (p.refs o.birth) j (ref p o.birth j)) (sym (set-get_or (p.refs o.birth) j None)))
    (subst (λ y. Invariant (set_object a (with_field o j k.now) w) (record p {
      refs = put p.refs o.birth (set (p.refs o.birth) j (ref p o.birth j));
      data_words = y;
    }) p0) (put_id p.data_words o.birth (p.data_words o.birth) refl)
    (write_field w p p0 i a o j k.now (ref p o.birth j) c b (subst (λ z. j < length z.refs) q y.within)
    (subst (StandsFor w k.now) (sym same) h.barrier.now) (λ n z. Next o.birth n j b z)
    (clean_scan w p p0 i t k.now d))) in
    let h' = opened_of (set_object a (with_field o j k.now) w) p p0 u t k e in
    change_keeps (set_object a (with_field o j k.now) w) p p0 u t k (record k { healed = true }) h' (record {
      target = h'.barrier.target;
      raw = h'.barrier.raw;
      now = h'.barrier.now;
      place = h'.barrier.place;
      running = h'.barrier.running;
    })

-- Heal, if the place has another reference
pub heal_changed_keeps : (w : AddressHeap) (p p0 : BirthHeap) → Invariant w p p0 → (t : ℕ) (k : OpenBarrier)
    → w.barrier t ≡ Some k → Invariant (set_barrier t (record k { healed = true }) w) p p0
heal_changed_keeps w p p0 i t k e =
    let h = opened_of w p p0 i t k e in
    change_keeps w p p0 i t k (record k { healed = true }) h (record {
      target = h.barrier.target;
      raw = h.barrier.raw;
      now = h.barrier.now;
      place = h.barrier.place;
      running = h.barrier.running;
    })

-- Finish
pub finish_keeps : (w : AddressHeap) (p p0 : BirthHeap) → Invariant w p p0 → (t : ℕ) (k : OpenBarrier)
    → w.barrier t ≡ Some k → nmt_trap_due w t k.now ≡ false
    → Invariant (end_load t k.target k.now w) (plain_finish t p) p0
finish_keeps w p p0 i t k e d =
    let h = opened_of w p p0 i t k e in
    subst (λ y. Invariant (end_load t k.target k.now w) (finish_at t y p) p0) (sym h.is)
    (subst (λ r. Invariant (end_load t k.target k.now w) (plain_end_load t r h.pending.1 p) p0) h.barrier.target
    (end_load_keeps w p p0 i t k.target k.now h.pending.1 (record {
      good = h.barrier.now;
      kept = pending_kept w p t k h;
      clean = clean_now w t k.now d;
    })))

-- Scrub, if the object was copied
pub scrub_moved_keeps : (w : AddressHeap) (p p0 : BirthHeap) → Invariant w p p0 → (t r a n : ℕ) (b : Bool)
    → w.barrier t ≡ None → w.register t r ≡ To a b → w.side_entry a ≡ Copied n
    → Invariant (set_register t r (To n b) w) p p0
scrub_moved_keeps w p p0 i t r a n b e v f =
    subst (λ y. Invariant (set_register t r (To n b) w) (record p { register = y }) p0)
    (put_at_id p.register t r (p.register t r) refl)
    (set_register_keeps w p p0 i t r (To n b) (p.register t r) e (moved_good w p p0 i a n b (p.register t r) f
    (subst (λ v. StandsFor w v (p.register t r)) v (i.words.registers t r))) (register_kept w p t r)
    (λ m c y l h. i.marks.registers t r m c a l (v ∙ (let z = h in cc))))

-- Scrub, if it wasn't
pub scrub_copied_keeps : (w : AddressHeap) (p p0 : BirthHeap) → Invariant w p p0
    → (t r a n : ℕ) (b : Bool) (o : HeapObject) → w.barrier t ≡ None → w.register t r ≡ To a b
    → w.side_entry a ≡ Planned n → w.object_at a ≡ Some o → w.phase ≢ ProtectCrossing
    → Invariant (set_register t r (To n b) (copy_object a n o w)) p p0
scrub_copied_keeps w p p0 i t r a n b o e v f h g =
    scrub_moved_keeps (copy_object a n o w) p p0 (copy_object_keeps w p p0 i a n o
    (record { entry = f; here = h; phase = g })) t r a n b e v (put_same w.side_entry a (Copied n))
