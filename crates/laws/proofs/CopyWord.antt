-- The object of a reference is copied if it is planned and uncopied: either nothing changes, or one object is copied.
use Rattle.std.proofs.Common.{◌≡◌, ◌≢◌, ℕ, Bool, true, Option, Some, refl, sym, ap, ap₂, subst}
use Rattle.model.specs.declared.records.Phase.TheVariants.{ProtectCrossing}
use Rattle.model.specs.Phases.{is_marking}
use Rattle.laws.specs.AddressHeap.{AddressHeap, HeapObject, Word, Null, To, SideEntry, NoEntry, Planned, Copied, names}
use Rattle.laws.specs.BirthHeap.{BirthHeap}
use Rattle.laws.specs.Invariant.{Invariant}
use Rattle.laws.specs.Edits.{copy_object, copy_word, objects_by, entries_by}
use Rattle.laws.proofs.CopyObject.{MayCopy, word, marked}

-- the object of a reference needn't be copied
abbrev pub IsSettled : AddressHeap → Word → Type 0
IsSettled w Null = Unit {0}
IsSettled w (To a b) = (n : ℕ) → w.side_entry a ≢ Planned n

-- nothing changes if no copy is due
pub copy_stays : (w : AddressHeap) (v : Word) → IsSettled w v → copy_word v w ≡ w
copy_stays w Null h = refl
copy_stays w (To a b) h = by_entry w a (w.side_entry a) (w.object_at a) h
  where
    by_entry : (w : AddressHeap) (a : ℕ) (f : SideEntry) (o : Option HeapObject) → ((n : ℕ) → f ≢ Planned n)
        → record w { object_at = objects_by f o w.object_at; side_entry = entries_by f a w.side_entry } ≡ w
    by_entry w a NoEntry o h = refl
    by_entry w a (Copied n) o h = refl
    by_entry w a (Planned n) o h = absurd (h n refl)

-- a copy that is due is made
pub copy_moves : (w : AddressHeap) (a n : ℕ) (b : Bool) (o : HeapObject) → w.side_entry a ≡ Planned n
    → w.object_at a ≡ Some o → copy_word (To a b) w ≡ copy_object a n o w
copy_moves w a n b o e h = ap₂ (λ f q. record w {
  object_at = objects_by f q w.object_at;
  side_entry = entries_by f a w.side_entry;
}) e h

-- a property that holds in both cases
pub by_copy : (w : AddressHeap) (p p0 : BirthHeap) → Invariant w p p0 → (v : Word) (P : AddressHeap → Type 0)
    → (IsSettled w v → P w)
    → ((a n : ℕ) (b : Bool) (o : HeapObject) → v ≡ To a b → w.side_entry a ≡ Planned n → w.object_at a ≡ Some o
    → P (copy_object a n o w)) → P (copy_word v w)
by_copy w p p0 i Null P stays moves = stays tt
by_copy w p p0 i (To a b) P stays moves = go (w.side_entry a) refl
  where
    settled : (f : SideEntry) → ((n : ℕ) → f ≢ Planned n) → w.side_entry a ≡ f → P (copy_word (To a b) w)
    settled f h e = let k : IsSettled w (To a b) = subst (λ f. (n : ℕ) → f ≢ Planned n) (sym e) h in
        subst P (sym (copy_stays w (To a b) k)) (stays k)

    go : (f : SideEntry) → w.side_entry a ≡ f → P (copy_word (To a b) w)
    go NoEntry e = settled NoEntry (λ n k. cc) e
    go (Copied m) e = settled (Copied m) (λ n k. cc) e
    go (Planned n) e =
        let q = i.objects.planned_object a n e in
        subst P (sym (copy_moves w a n b q.0 e q.1)) (moves a n b q.0 refl e q.1)

module _ (w : AddressHeap) (p p0 : BirthHeap) (i : Invariant w p p0) (m : is_marking w.phase ≡ true) (v : Word) where
  -- while a mark runs, a planned object may be copied
  pub may_copy : (a n : ℕ) (o : HeapObject) → w.side_entry a ≡ Planned n → w.object_at a ≡ Some o → MayCopy w a n o
  may_copy a n o e h =
      record { entry = e; here = h; phase = λ (y : w.phase ≡ ProtectCrossing). (let z = ap is_marking y in cc) }

  -- every reference represents the same birth
  pub copied_names : (u : Word) (x : Option ℕ) → names w u ≡ Some x → names (copy_word v w) u ≡ Some x
  copied_names u x named = by_copy w p p0 i v (λ z. names z u ≡ Some x) (λ _. named)
      (λ a n b o is e h. word w p p0 i a n o (may_copy a n o e h) u x named)

  -- a marked object stays where it is
  pub copied_stays : (a : ℕ) → w.marked a ≡ true → (copy_word v w).object_at a ≡ w.object_at a
  copied_stays a is_marked = by_copy w p p0 i v (λ z. z.object_at a ≡ w.object_at a) (λ _. refl)
      (λ b n c o is e h. marked w p p0 i b n o (may_copy b n o e h) a is_marked)
