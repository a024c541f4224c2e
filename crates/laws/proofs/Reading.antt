-- What the steps need of the invariant: the object of a usable reference, the contents of a kept object, and the
-- effect of marking a reference.
use Rattle.std.proofs.Common.{◌≡◌, ◌≢◌, ◌⊎◌, ◌<◌, inl, inr, ℕ, Bool, true, false, Option, Some, None, List}
use Rattle.std.proofs.Common.{length, get_or, set, refl, sym, ◌∙◌, ap, subst, get_or-set_same, get_or-set_other}
use Rattle.std.proofs.lemmas.Bool.{cases_eq}
use Rattle.model.specs.declared.records.Phase.TheVariants.{Scanning}
use Rattle.model.specs.declared.records.PageState.{PageState}
use Rattle.model.specs.declared.records.PageState.TheVariants.{Unused, Open, Closed, From, Gone}
use Rattle.model.specs.Stores.{is_protected, has_memory}
use Rattle.model.specs.Phases.{is_marking, is_crossing}
use Rattle.laws.specs.AddressHeap.{AddressHeap, HeapObject, Word, Null, To, field, current, resolve}
use Rattle.laws.specs.AddressHeap.{resolve_by, names, birth_of, SideEntry, NoEntry, Planned, Copied}
use Rattle.laws.specs.BirthHeap.{BirthHeap, ref, InRegister, InGlobal, Start}
use Rattle.laws.specs.Invariant.{IsKept, IsClean, StandsFor, Invariant}
use Rattle.laws.specs.Transitions.{IsUsable}
use Rattle.laws.specs.Edits.{set_mark, clean_word, mark_word, marked_word, marked_after, copy_object}
use Rattle.laws.proofs.Basics.{put_same, current_there, marked_here}
use Rattle.laws.proofs.MarkObject.{mark_keeps}
use Rattle.laws.proofs.CopyObject.{copy_object_keeps, kept_back, word}
use Rattle.laws.proofs.CopyWord.{IsSettled, by_copy, may_copy}

-- the object of a reference that isn't null
pub record NamedObject (w : AddressHeap) (a : ℕ) (x : Option ℕ) : Type 0 where
  pub object : HeapObject
  pub here : current w a ≡ Some object
  pub birth : x ≡ Some object.birth

named_by : (w : AddressHeap) (a : ℕ) (x : Option ℕ) (y : Option HeapObject) → current w a ≡ y → birth_of y ≡ Some x
    → NamedObject w a x
named_by w a x None e h = cc
named_by w a x (Some o) e h = record { object = o; here = e; birth = (let z = h in cc) }

pub named : (w : AddressHeap) (a : ℕ) (n : Bool) (x : Option ℕ) → names w (To a n) ≡ Some x
    → NamedObject w (resolve w a) x
named w a n x e = named_by w (resolve w a) x (current w (resolve w a)) refl e

-- a usable address resolves to itself
pub usable_here : (w : AddressHeap) (p p0 : BirthHeap) → Invariant w p p0 → (t a : ℕ) → IsUsable w t a
    → resolve w a ≡ a
usable_here w p p0 i t a u = go (w.side_entry a) refl
  where
    go : (f : SideEntry) → w.side_entry a ≡ f → resolve_by f a ≡ a
    go NoEntry e = refl
    go (Planned n) e = refl
    go (Copied n) e = absurd (i.phases.uncopied a n (u (i.objects.copied_from a n e)).0 e)

pub used : (w : AddressHeap) (p p0 : BirthHeap) → Invariant w p p0 → (t r a : ℕ) (n : Bool) → w.register t r ≡ To a n
    → IsUsable w t a → NamedObject w a (p.register t r)
used w p p0 i t r a n e u = subst (λ y. NamedObject w y (p.register t r)) (usable_here w p p0 i t a u)
    (named w a n (p.register t r) (ap (names w) (sym e) ∙ (i.words.registers t r).names))

pub register_kept : (w : AddressHeap) (p : BirthHeap) (t r b : ℕ) → p.register t r ≡ Some b → IsKept w p b
register_kept w p t r b e = Start b (inl (InRegister t r e))

pub global_kept : (w : AddressHeap) (p : BirthHeap) (g b : ℕ) → p.global g ≡ Some b → IsKept w p b
global_kept w p g b e = Start b (inl (InGlobal g e))

-- a kept object at its address
pub record At (w : AddressHeap) (p : BirthHeap) (a : ℕ) (o : HeapObject) : Type 0 where
  pub live : w.page_state a ≡ Closed → w.live a ≡ true
  pub entry : w.page_state a ≡ From → (n : ℕ) × (w.side_entry a ≡ Planned n)
  pub layout : o.layout ≡ p.layout o.birth
  pub data_words : o.data_words ≡ p.data_words o.birth
  pub refs_length : length o.refs ≡ length (p.refs o.birth)
  pub refs : (j : ℕ) → StandsFor w (field o j) (ref p o.birth j)

pub at : (w : AddressHeap) (p p0 : BirthHeap) → Invariant w p p0 → (a : ℕ) (o : HeapObject) → current w a ≡ Some o
    → IsKept w p o.birth → At w p a o
at w p p0 i a o h k =
    let s = i.words.kept o.birth k in
    let e : s.address ≡ a = i.objects.one_current s.address a s.object o s.here h s.birth in
    let z = s.here in
    let y = ap (current w) e in
    let f : s.object ≡ o = cc in
    record {
      live = λ x. ap w.live (sym e) ∙ s.live (ap w.page_state e ∙ x);
      entry = λ x. (let n = s.entry (ap w.page_state e ∙ x) in (n.0, ap w.side_entry (sym e) ∙ n.1));
      layout = ap (λ o. o.layout) (sym f) ∙ s.layout;
      data_words = ap (λ o. o.data_words) (sym f) ∙ s.data_words;
      refs_length = ap (λ o. length o.refs) (sym f) ∙ s.refs_length;
      refs = λ j. subst (λ q. StandsFor w (field q j) (ref p o.birth j)) f (s.refs j);
    }

-- a kept object that isn't planned is on no protected page
pub kept_unprotected : (w : AddressHeap) (p p0 : BirthHeap) → Invariant w p p0 → (a : ℕ) (o : HeapObject)
    → current w a ≡ Some o → IsKept w p o.birth → ((n : ℕ) → w.side_entry a ≢ Planned n)
    → is_protected (w.page_state a) ≡ false
kept_unprotected w p p0 i a o h k f = go (w.page_state a) refl
  where
    go : (k : PageState) → w.page_state a ≡ k → is_protected k ≡ false
    go Unused e = refl
    go Open e = refl
    go Closed e = refl
    go From e = let n = (at w p p0 i a o h k).entry e in absurd (f n.0 n.1)
    go Gone e = let z = i.objects.with_memory a o (current_there w a o h) in let y = ap has_memory e in cc

-- while scanning, every register is clean
pub clean_register : (w : AddressHeap) (p p0 : BirthHeap) → Invariant w p p0 → w.phase ≡ Scanning → (t r : ℕ)
    → IsClean w (w.register t r)
clean_register w p p0 i e t r = i.marks.registers t r (ap is_marking e) (i.phases.crossed (ap is_crossing e) t)

-- an object at an address after forwarding needn't be copied
settled_there : (w : AddressHeap) (p p0 : BirthHeap) → Invariant w p p0 → (a : ℕ) (b : Bool) → IsSettled w (To a b)
    → (n : ℕ) → w.side_entry (resolve w a) ≢ Planned n
settled_there w p p0 i a b h = go (w.side_entry a) refl
  where
    go : (f : SideEntry) → w.side_entry a ≡ f → (n : ℕ) → w.side_entry (resolve_by f a) ≢ Planned n
    go (Copied m) e n k = let x = i.objects.copied_open a m e in let y = i.objects.planned_from m n k in cc
    go NoEntry e n k = h n k
    go (Planned m) e n k = h n k

-- the effect of marking a reference, in a heap in which its object isn't planned
pub record MarkedNow (w : AddressHeap) (p p0 : BirthHeap) (v : Word) (x : Option ℕ) : Type 0 where
  pub inv : Invariant (set_mark v w) p p0
  pub good : StandsFor (set_mark v w) (clean_word w v) x
  pub clean : IsClean w (clean_word w v)

set_mark_keeps : (w : AddressHeap) (p p0 : BirthHeap) → Invariant w p p0 → is_marking w.phase ≡ true
    → (v : Word) (x : Option ℕ) → names w v ≡ Some x → ((b : ℕ) → x ≡ Some b → IsKept w p b) → IsSettled w v
    → MarkedNow w p p0 v x
set_mark_keeps w p p0 i m Null x e k f = record {
  inv = i;
  good = record { names = e; fits = record { outside = λ _ a n h. cc; inside = λ a _ h. cc } };
  clean = λ a n h. cc;
}
set_mark_keeps w p p0 i m (To a n) x e k f =
    let d = named w a n x e in
    let j : Invariant (set_mark (To a n) w) p p0 = mark_keeps w p p0 i (resolve w a) d.object (record {
      running = m;
      here = d.here;
      kept = k d.object.birth d.birth;
      page = kept_unprotected w p p0 i (resolve w a) d.object d.here (k d.object.birth d.birth)
          (settled_there w p p0 i a n f);
    }) in
    let r : resolve w (resolve w a) ≡ resolve w a =
    marked_here (set_mark (To a n) w) p p0 j (resolve w a) (put_same w.marked (resolve w a) true) in
    record {
      inv = j;
      good = record {
        names = ap (λ z. birth_of (current w z)) r ∙ e;
        fits = record {
          outside = λ f. (let z = m in cc);
          inside = λ y f h. (let z : resolve w a ≡ y = cc in ap (marked_after (To a n) w) (sym z)
              ∙ put_same w.marked (resolve w a) true);
        };
      };
      clean = λ y b h. (let z = h in cc);
    }

-- the effect of marking a reference, whose object is copied first if it is planned
pub record MarkedWord (w : AddressHeap) (p p0 : BirthHeap) (v : Word) (x : Option ℕ) : Type 0 where
  pub inv : Invariant (mark_word v w) p p0
  pub good : StandsFor (mark_word v w) (marked_word w v) x
  pub clean : IsClean w (marked_word w v)

pub mark_word_keeps : (w : AddressHeap) (p p0 : BirthHeap) → Invariant w p p0 → is_marking w.phase ≡ true
    → (v : Word) (x : Option ℕ) → names w v ≡ Some x → ((b : ℕ) → x ≡ Some b → IsKept w p b) → MarkedWord w p p0 v x
mark_word_keeps w p p0 i m v x e k = (let r = by_copy w p p0 i v (λ u. MarkedNow u p p0 v x)
    (λ f. set_mark_keeps w p p0 i m v x e k f) copied in
    record { inv = r.inv; good = r.good; clean = r.clean })
  where
    copied : (a n : ℕ) (b : Bool) (o : HeapObject) → v ≡ To a b → w.side_entry a ≡ Planned n → w.object_at a ≡ Some o
        → MarkedNow (copy_object a n o w) p p0 v x
    copied a n b o is f h =
        let c = may_copy w p p0 i m v a n o f h in
        let u = copy_object a n o w in
        set_mark_keeps u p p0 (copy_object_keeps w p p0 i a n o c) m v x (word w p p0 i a n o c v x e)
        (λ d q. kept_back w p p0 i a n o c d (k d q))
        (subst (IsSettled u) (sym is) (λ l z. (let y = put_same w.side_entry a (Copied n) in cc)))

-- an element after another was set
pub set_at : {A : Type 0} (l : List A) (i j : ℕ) (v d : A) → i < length l
    → ((j ≡ i) × (get_or (set l i v) j d ≡ v)) ⊎ ((j ≢ i) × (get_or (set l i v) j d ≡ get_or l j d))
set_at l i j v d h = go (cases_eq j i)
  where
    go : (j ≡ i) ⊎ (j ≢ i)
        → ((j ≡ i) × (get_or (set l i v) j d ≡ v)) ⊎ ((j ≢ i) × (get_or (set l i v) j d ≡ get_or l j d))
    go (inl e) = inl (e, ap (λ j. get_or (set l i v) j d) e ∙ get_or-set_same l i v d h)
    go (inr e) = inr (e, get_or-set_other l i j v d e)
