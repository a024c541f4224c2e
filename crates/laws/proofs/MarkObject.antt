-- Marking an object keeps the invariant.
use Rattle.std.proofs.Common.{◌≡◌, ◌≢◌, ◌⊎◌, inl, inr, ℕ, Bool, true, false}
use Rattle.std.proofs.Common.{cond, Option, Some, refl, sym, ◌∙◌, ap, subst}
use Rattle.std.proofs.lemmas.Bool.{cases_Bool}
use Rattle.model.specs.Stores.{is_protected}
use Rattle.model.specs.Phases.{is_marking}
use Rattle.laws.specs.AddressHeap.{AddressHeap, HeapObject, Word, put, current, field, LoadPlace, AtField, AtGlobal}
use Rattle.laws.specs.BirthHeap.{BirthHeap, ref, Start, Next}
use Rattle.laws.specs.Invariant.{IsSeed, IsKept, HasCurrent, StandsFor, IsClean, Invariant, IsPlace}
use Rattle.laws.proofs.Basics.{reached, put_all, put_both, put_after, put_id, barrier_map, current_there}

-- the object at an address is marked, and its grey bit becomes b
abbrev pub mark_with_todo : ℕ → Bool → AddressHeap → AddressHeap
mark_with_todo a b w = record w { marked = put w.marked a true; todo = put w.todo a b }

-- the object at an address is marked: if it wasn't, it is grey
abbrev pub mark_at : ℕ → AddressHeap → AddressHeap
mark_at a w = mark_with_todo a (cond (w.marked a) (w.todo a) true) w

-- object o at a may be marked
pub record MayMark (w : AddressHeap) (p : BirthHeap) (a : ℕ) (o : HeapObject) : Type 0 where
  pub running : is_marking w.phase ≡ true
  pub here : current w a ≡ Some o
  pub kept : IsKept w p o.birth
  pub page : is_protected (w.page_state a) ≡ false

module _ (w : AddressHeap) (p p0 : BirthHeap) (i : Invariant w p p0) (a : ℕ) (o : HeapObject)
    (m : MayMark w p a o) where
  more : (x : ℕ) → w.marked x ≡ true → put w.marked a true x ≡ true
  more = put_all (λ x b. w.marked x ≡ true → b ≡ true) w.marked a true (λ _. refl) (λ x _ e. e)

  good : (v : Word) (x : Option ℕ) → StandsFor w v x → StandsFor (mark_with_todo a true w) v x
  good v x g = record {
    names = g.names;
    fits = record { outside = g.fits.outside; inside = λ y e h. more y (g.fits.inside y e h) };
  }

  kept : (b : ℕ) → IsKept (mark_with_todo a true w) p b → IsKept w p b
  kept = reached p.refs (IsSeed (mark_with_todo a true w) p) (IsKept w p) seed (λ b c j k. Next b c j k)
    where
      seed : (b : ℕ) → IsSeed (mark_with_todo a true w) p b → IsKept w p b
      seed b (inl h) = Start b (inl h)
      seed b (inr h) = go (put_after w.marked a true h.address true h.is_marked)
        where
          go : ((h.address ≡ a) × (true ≡ true)) ⊎ ((h.address ≢ a) × (w.marked h.address ≡ true)) → IsKept w p b
          go (inl k) = let y = current_there w a o m.here in let x = h.here in let z = ap w.object_at k.0 in
              let u : o ≡ h.object = cc in subst (IsKept w p) (ap (λ q. q.birth) u ∙ h.birth) m.kept
          go (inr k) = Start b (inr (record {
            address = h.address;
            object = h.object;
            is_marked = k.1;
            here = h.here;
            birth = h.birth;
          }))

  place : (t : ℕ) (d : LoadPlace) → IsPlace w p t d → IsPlace (mark_with_todo a true w) p t d
  place t (AtGlobal g) h = h
  place t (AtField x j) h = h

  stands : (b : ℕ) → HasCurrent w p b → HasCurrent (mark_with_todo a true w) p b
  stands b s = record {
    address = s.address;
    object = s.object;
    here = s.here;
    birth = s.birth;
    live = s.live;
    entry = s.entry;
    layout = s.layout;
    data_words = s.data_words;
    refs_length = s.refs_length;
    refs = λ j. good (field s.object j) (ref p b j) (s.refs j);
  }

  with_keeps : Invariant (mark_with_todo a true w) p p0
  with_keeps = record {
    words = record {
      registers = λ t r. good (w.register t r) (p.register t r) (i.words.registers t r);
      globals = λ g. good (w.global g) (p.global g) (i.words.globals g);
      barriers = λ t. barrier_map w (mark_with_todo a true w) p p t (w.barrier t) (p.pending t) (λ u y e. e) good
          (place t) (λ e. e) (i.words.barriers t);
      kept = λ b k. stands b (i.words.kept b (kept b k));
    };
    objects = i.objects;
    marks = record {
      running = λ x _. m.running;
      object = put_all (λ x b. b ≡ true → (q : HeapObject) × (w.object_at x ≡ Some q)) w.marked a true
          (λ _. (o, current_there w a o m.here)) (λ x _. i.marks.object x);
      unprotected = put_all (λ x b. b ≡ true → is_protected (w.page_state x) ≡ false) w.marked a true (λ _. m.page)
          (λ x _. i.marks.unprotected x);
      todo = put_both (λ x b c. b ≡ true → c ≡ true) w.todo w.marked a true true (λ _. refl) (λ x _. i.marks.todo x);
      scanned = λ x q j. put_both (λ x b c. b ≡ true → c ≡ false → w.object_at x ≡ Some q
          → IsClean w (field q j)) w.marked w.todo a true true (λ _ e. cc) (λ x _. i.marks.scanned x q j) x;
      scanning = λ k s e. put_all (λ x b. w.todo x ≡ true → b ≡ true) w.todo a true (λ _. refl)
          (λ x _ h. h) s.address (i.marks.scanning k s e);
      passed = i.marks.passed;
      alone = i.marks.alone;
      registers = i.marks.registers;
      globals = i.marks.globals;
    };
    phases = record {
      waits = i.phases.waits;
      crossed = i.phases.crossed;
      idle = i.phases.idle;
      none_gone = i.phases.none_gone;
      uncopied = i.phases.uncopied;
      all_todo = λ x f. put_both (λ x b c. b ≡ true → c ≡ true) w.marked w.todo a true true (λ _. refl)
          (λ x _. i.phases.all_todo x f) x;
      globals_todo = i.phases.globals_todo;
      no_global = i.phases.no_global;
      no_scan = i.phases.no_scan;
    };
    births = i.births;
    since = λ f b k. i.since f b (kept b k);
    later = i.later;
  }

  -- if it was marked, nothing changes
  no_change : w.marked a ≡ true → mark_at a w ≡ w
  no_change e = λ x. record w {
    marked = put_id w.marked a true e x;
    todo = put_id w.todo a (cond (w.marked a) (w.todo a) true) (ap (λ b. cond b (w.todo a) true) (sym e)) x;
  }

  pub mark_keeps : Invariant (mark_at a w) p p0
  mark_keeps = go (cases_Bool (w.marked a))
    where
      go : (w.marked a ≡ true) ⊎ (w.marked a ≡ false) → Invariant (mark_at a w) p p0
      go (inl e) = subst (λ z. Invariant z p p0) (sym (no_change e)) i
      go (inr e) =
          subst (λ b. Invariant (mark_with_todo a b w) p p0) (ap (λ b. cond b (w.todo a) true) (sym e)) with_keeps
