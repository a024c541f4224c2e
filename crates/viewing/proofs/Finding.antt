-- References of a heap lead to what each reference model has that the heap represents.
use Rattle.std.proofs.Common.{◌≡◌, ◌⊎◌, inl, inr, ℕ, ◌+◌, ◌/◌, ◌<◌, ◌≤◌, arith, Bool, true, length}
use Rattle.std.proofs.Common.{Option, Some, None, refl, sym, ◌∙◌, ap, subst, nat_eq, eq-eqb, ne_eqb, ◌≢◌}
use Rattle.std.proofs.lemmas.Bool.{cases_eq}
use Rattle.std.specs.Prelude.{Ok, Err, is_some}
use Rattle.std.specs.List.{slice_get}
use Rattle.std.specs.Option.{option_map}
use Rattle.std.proofs.lemmas.Option.{same_Some, slice_get_past}
use Rattle.layout.specs.Objects.{birth_of, layout_of}
use Rattle.model.specs.Data.{datum_at}
use Rattle.model.specs.Holding.{IsHeap}
use Rattle.model.specs.Owning.{IsStore}
use Rattle.model.specs.Plain.{PlainHeap, PlainThread, name_in, name_of}
use Rattle.model.specs.References.{read_reference, field_at, global_of}
use Rattle.model.specs.Marks as model
use Rattle.model.specs.Refusing.{or_refuse}
use Rattle.refword.specs.Words.{address_in}
use Rattle.layout.specs.declared.shape.Layout.{Layout}
use Rattle.managed.specs.Managing.{Promises}
use Rattle.refinement.proofs.Marks.{resolve_same}
use Rattle.model.specs.Registers.{register_of}
use Rattle.model.specs.States.{HeapState, Reference, flat}
use Rattle.model.specs.Stores.{word_at}
use Rattle.model.specs.declared.steps.Refusal.TheVariants as refusals
use Rattle.model.proofs.Lists.{get_within}
use Rattle.laws.specs.AddressHeap.{resolve}
use Rattle.page.specs.Usable.{usable_frame}
use Rattle.page.proofs.Usable.{usable_unprotected}
use Rattle.refinement.specs.Standing.{Holds}
use Rattle.refinement.specs.Worlds.{world_of, as_word}
use Rattle.viewing.specs.Viewing.{HandleState, FindsEntry, IsHandle, ReadsDatum, ReadsEntry, TellsObject, birth_seen, field_entry}
use Rattle.viewing.specs.Viewing.{global_entry, handle_at, place_of, register_entry, register_in}
use Rattle.viewing.proofs.Seeing.{NamesReachable, register_named, global_named, handle_seen, named_seen, stays_there}
use Rattle.viewing.proofs.Seeing.{field_named, field_plain, field_missing, field_readable, datum_plain}
use Rattle.viewing.proofs.Seeing.{datum_missing, datum_readable, header_readable, birth_plain, same_birth, shape_plain, layout_known}

-- a reference model has at a place what a reference refers to
pub record IsEntry (h : HeapState) (p : PlainHeap) (w : Reference) (entry : Option (Option ℕ)) : Type 0 where
  pub found : Option ℕ
  pub named : NamesReachable h p (as_word w) found
  pub is : entry ≡ Some found

-- the object of a reference is found at its current place
pub found_entry : (h : HeapState) (w : Reference) (entry : PlainHeap → Option (Option ℕ))
    → ((p p0 : PlainHeap) → Holds h p p0 → IsEntry h p w (entry p)) → ReadsEntry h entry (Ok (place_of h w))
found_entry h None entry each = λ p p0 k.
    (let e = each p p0 k in e.is ∙ sym e.named.names)
found_entry h (Some (a, n)) entry each = (
  λ p p0 k. handle_seen k a n (each p p0 k).found (each p p0 k).named,
  λ p p0 k. (let e = each p p0 k in e.is ∙ ap Some (named_seen k a n e.found e.named)),
)

-- if a page is usable, an address on it is its object's current place
pub usable_stays : (h : HeapState) (p p0 : PlainHeap) → Holds h p p0 → (a f : ℕ)
    → usable_frame h.store (a / h.store.words) ≡ Some f → resolve (world_of h) a ≡ a
usable_stays h p p0 k a f e = stays_there k a (usable_unprotected h.store (a / h.store.words) f e)

-- roots

thread_there : {h : HeapState} {p p0 : PlainHeap} → Holds h p p0 → (t r : ℕ) → t < length h.threads
    → r < h.config.registers → register_entry t r p ≡ Some (name_of p t r)
unfolding name_of
thread_there {p = p} k t r low small =
    let (x, at) = get_within p.threads t (omega (arith, low, k.roots.threads)) in
    let (b, is) = get_within x.registers r (omega (arith, small, k.roots.registers t x at)) in
    ap (register_in r) at ∙ is ∙ ap Some (sym (ap flat is)) ∙ ap Some (sym (ap (λ o. name_in o r) at))

pub register_found : (h : HeapState) (t r : ℕ) → t < length h.threads → r < h.config.registers
    → ReadsEntry h (register_entry t r) (Ok (place_of h (register_of h t r)))
register_found h t r low small = found_entry h (register_of h t r) (register_entry t r)
    (λ p p0 k. record { found = name_of p t r; named = register_named k t r; is = thread_there k t r low small })

pub thread_missing : (h : HeapState) (t r : ℕ) → length h.threads ≤ t
    → ReadsEntry h (register_entry t r) (Err refusals.BadIndex)
thread_missing h t r high = (refl, λ p p0 k. ap (register_in r) (slice_get_past p.threads t (omega (arith, high, k.roots.threads))))

pub register_missing : (h : HeapState) (t r : ℕ) → h.config.registers ≤ r
    → ReadsEntry h (register_entry t r) (Err refusals.BadIndex)
register_missing h t r high = (refl, λ p p0 k. by_thread p p0 k (slice_get p.threads t) refl)
  where
    by_thread : (p p0 : PlainHeap) → Holds h p p0 → (o : Option PlainThread) → slice_get p.threads t ≡ o
        → register_in r o ≡ None
    by_thread p p0 k None e = refl
    by_thread p p0 k (Some x) e = slice_get_past x.registers r (omega (arith, high, k.roots.registers t x e))

pub global_found : (h : HeapState) (g : ℕ) → g < length h.globals
    → ReadsEntry h (global_entry g) (Ok (place_of h (global_of h g)))
global_found h g low = found_entry h (global_of h g) (global_entry g) (λ p p0 k.
    (let (x, is) = get_within p.globals g (omega (arith, low, k.roots.globals)) in
    record { found = _; named = global_named k g; is = is ∙ ap Some (sym (ap flat is)) }))

pub global_missing : (h : HeapState) (g : ℕ) → length h.globals ≤ g
    → ReadsEntry h (global_entry g) (Err refusals.BadIndex)
global_missing h g high = (refl, λ p p0 k. slice_get_past p.globals g (omega (arith, high, k.roots.globals)))

-- objects

module _ (h : HeapState) (s : IsStore h.store) (d : IsHeap h) (a : ℕ) (x : IsHandle (handle_at h a)) where
  pub field_found : (i ahead bits : ℕ) → field_at h a i ≡ Some (a + ahead) → word_at h.store (a + ahead) ≡ Some bits
      → ReadsEntry h (field_entry (handle_at h a) i) (Ok (place_of h (read_reference bits)))
  field_found i ahead bits at word = found_entry h (read_reference bits) (field_entry (handle_at h a) i) (λ p p0 k.
      record {
        found = _;
        named = field_named k a (x p p0 k) s i ahead bits at word;
        is = field_plain k a (x p p0 k) i ahead at;
      })

  pub field_not_found : (i : ℕ) → field_at h a i ≡ None
      → ReadsEntry h (field_entry (handle_at h a) i) (Err refusals.BadIndex)
  field_not_found i e = (refl, λ p p0 k. field_missing k a (x p p0 k) i e)

  -- the same for each reference model

  pub field_absent : (i : ℕ) → field_at h a i ≡ None → (p p0 : PlainHeap) → Holds h p p0
      → field_entry (handle_at h a) i p ≡ None
  field_absent i e p p0 k = field_missing k a (x p p0 k) i e

  pub datum_found : (j ahead v : ℕ) → datum_at h a j ≡ Some (a + ahead) → word_at h.store (a + ahead) ≡ Some v
      → ReadsDatum (handle_at h a) j (Ok v)
  datum_found j ahead v at word =
      λ p p0 k. ap (λ o. or_refuse o refusals.BadIndex) (sym (datum_plain k a (x p p0 k) s d j ahead v at word))

  pub datum_not_found : (j : ℕ) → datum_at h a j ≡ None → ReadsDatum (handle_at h a) j (Err refusals.BadIndex)
  datum_not_found j e =
      λ p p0 k. ap (λ o. or_refuse o refusals.BadIndex) (sym (datum_missing k a (x p p0 k) j e))

  pub field_readable_here : (i ahead : ℕ) → field_at h a i ≡ Some (a + ahead) → word_at h.store (a + ahead) ≡ None
      → Promises h → ⊥
  field_readable_here i ahead at e m = field_readable m.holds a (x _ _ m.holds) s i ahead at e

  pub datum_readable_here : (j ahead : ℕ) → datum_at h a j ≡ Some (a + ahead) → word_at h.store (a + ahead) ≡ None
      → Promises h → ⊥
  datum_readable_here j ahead at e m = datum_readable m.holds a (x _ _ m.holds) s j ahead at e

  pub header_readable_here : word_at h.store a ≡ None → Promises h → ⊥
  header_readable_here e m = header_readable m.holds a (x _ _ m.holds) s e

  pub layout_known_here : (header : ℕ) → word_at h.store a ≡ Some header
      → slice_get h.config.layouts (layout_of header) ≡ None → Promises h → ⊥
  layout_known_here header word e m = layout_known m.holds a (x _ _ m.holds) header word e

  pub object_found : (header : ℕ) (l : Layout) → word_at h.store a ≡ Some header
      → slice_get h.config.layouts (layout_of header) ≡ Some l → Promises h → TellsObject (handle_at h a) (record {
        birth = birth_of header;
        layout = layout_of header;
        refs = l.refs;
        nums = l.nums;
      })
  object_found header l word known m = record {
    birth = sym (birth_plain m.holds a (x _ _ m.holds) header word);
    shape = λ p p0 k. shape_plain k a (x p p0 k) header l word known;
  }

-- references

pub placed_at_once : (h : HeapState) → Promises h → (w : Reference) (a : ℕ) (o : Option ℕ) → Some a ≡ address_in w
    → o ≡ usable_frame h.store (a / h.store.words) → is_some o ≡ true → Some a ≡ place_of h w
placed_at_once h m None a o e f g = absurd (cc)
placed_at_once h m (Some v) a None e f g = absurd (cc)
placed_at_once h m (Some (b, n)) a (Some x) e f g =
    let same : a ≡ b = same_Some a b e in
    ap Some (same ∙ sym (usable_stays h _ _ m.holds b x
    (ap (λ c. usable_frame h.store (c / h.store.words)) (sym same) ∙ sym f)))

pub placed : (h : HeapState) (w : Reference) (a n : ℕ) → Some a ≡ address_in w → n ≡ model.resolve h a
    → Some n ≡ place_of h w
placed h None a n e f = absurd (cc)
placed h (Some (b, bit)) a n e f =
    let same : a ≡ b = same_Some a b e in
    ap Some (f ∙ sym (resolve_same h a) ∙ ap (resolve (world_of h)) same)

-- handles

-- the handles of what was found at an address
pub handles_found : (h : HeapState) (entry : PlainHeap → Option (Option ℕ)) (o : Option ℕ) (r : Option HandleState)
    → ReadsEntry h entry (Ok o) → r ≡ option_map (handle_at h) o → FindsEntry h entry (Ok r)
handles_found h entry o r reads e = subst (λ r. FindsEntry h entry (Ok r)) (sym e) (by_case o reads)
  where
    by_case : (o : Option ℕ) → ReadsEntry h entry (Ok o) → FindsEntry h entry (Ok (option_map (handle_at h) o))
    by_case None f = (tt, f)
    by_case (Some a) f = (refl, f)

same_at : (h : HeapState) (a c : ℕ) → Promises h → IsHandle (handle_at h a) → IsHandle (handle_at h c)
    → nat_eq a c ≡ nat_eq (birth_seen (handle_at h a)) (birth_seen (handle_at h c))
same_at h a c m x y = by_test (cases_eq a c)
  where
    by_test : (a ≡ c) ⊎ (a ≢ c) → nat_eq a c ≡ nat_eq (birth_seen (handle_at h a)) (birth_seen (handle_at h c))
    by_test (inl e) = eq-eqb a c e ∙ sym (eq-eqb _ _ (ap (λ n. birth_seen (handle_at h n)) e))
    by_test (inr e) = ne_eqb a c e ∙ sym (ne_eqb _ _ (λ f. e (same_birth m.holds a c (x _ _ m.holds) (y _ _ m.holds) f)))

-- two handles of a heap refer to one birth exactly if they have one address
pub same_found : (x y : HandleState) (b : Bool) → Promises x.heap → IsHandle x → IsHandle y
    → b ≡ nat_eq x.address y.address → x.heap ≡ y.heap → b ≡ nat_eq (birth_seen x) (birth_seen y)
same_found x y b m f g e same =
    e ∙ same_at x.heap x.address y.address m f (subst (λ h. IsHandle (handle_at h y.address)) (sym same) g)
    ∙ ap (λ h. nat_eq (birth_seen x) (birth_seen (handle_at h y.address))) same
