-- What the references of a heap show of a reference model that it represents.
use Rattle.std.proofs.Common.{◌≡◌, ℕ, ◌+◌, ◌/◌, ◌%◌, ◌<◌, ◌≤◌, arith, Bool, false, List}
use Rattle.std.proofs.Common.{length, Option, Some, None, refl, sym, ◌∙◌, ap, subst}
use Rattle.std.specs.List.{slice_get}
use Rattle.std.specs.Option.{option_and_then}
use Rattle.std.proofs.lemmas.Option.{same_Some, slice_get_past}
use Rattle.layout.specs.declared.shape.Layout.{Layout}
use Rattle.layout.specs.Objects.{birth_of, layout_of}
use Rattle.model.specs.Data.{datum_at}
use Rattle.model.specs.Holding.{IsHeap}
use Rattle.model.specs.Owning.{IsStore}
use Rattle.model.specs.Plain.{PlainHeap, Object, name_of, field_of, datum_of}
use Rattle.model.specs.References.{read_reference, field_at, global_of}
use Rattle.model.specs.Registers.{register_of}
use Rattle.model.specs.States.{HeapState, flat}
use Rattle.model.specs.Stores.{word_at, state_at, is_protected}
use Rattle.model.proofs.Lists.{get_within}
use Rattle.model.proofs.Memory.{word_on_page}
use Rattle.laws.specs.AddressHeap.{HeapObject, SideEntry, NoEntry, Planned, Copied, Word, To, current, field, names}
use Rattle.laws.specs.AddressHeap.{resolve, resolve_by}
use Rattle.laws.specs.BirthHeap.{IsReachable, InRegister, InGlobal, Start, Next, ref}
use Rattle.laws.specs.Promises.{StandsForPlain}
use Rattle.laws.proofs.Basics.{current_there}
use Rattle.laws.proofs.Promises.{stands, reachable_kept}
use Rattle.laws.proofs.Reading.{At, NamedObject}
use Rattle.laws.proofs.Reading as reading
use Rattle.refinement.specs.PlainHeaps.{births_of, layout_in, refs_in, data_in}
use Rattle.refinement.specs.Standing.{Holds}
use Rattle.refinement.specs.Worlds.{world_of, as_word, object_at, word_in_memory}
use Rattle.refinement.proofs.Data.{datum_read}
use Rattle.refinement.proofs.Loads.{field_is, global_same, plain_field, read_named}
use Rattle.refinement.specs.Claims.{object_size}
use Rattle.refinement.proofs.ObjectWords.{read_data, read_fits, read_refs}
use Rattle.refinement.proofs.Objects.{there}
use Rattle.refinement.proofs.Verdicts.{field_there, field_past, datum_there, datum_past}
use Rattle.refinement.proofs.Written.{word_there}
use Rattle.viewing.specs.Viewing.{SeesReachable, IsShaped, birth_in}

-- a reference leads to this: nothing, or a reachable birth
pub record NamesReachable (h : HeapState) (p : PlainHeap) (v : Word) (found : Option ℕ) : Type 0 where
  pub names : names (world_of h) v ≡ Some found
  pub reachable : (b : ℕ) → found ≡ Some b → IsReachable (births_of p) b

module _ {h : HeapState} {p p0 : PlainHeap} (k : Holds h p p0) where
  plain : StandsForPlain (world_of h) (births_of p)
  plain = stands (world_of h) (births_of p) (births_of p0) k.invariant

  -- the object of a reachable birth has what the reference model's has
  is_at : (a : ℕ) (q : HeapObject) → current (world_of h) a ≡ Some q → IsReachable (births_of p) q.birth
      → At (world_of h) (births_of p) a q
  is_at a q here r = reading.at (world_of h) (births_of p) (births_of p0) k.invariant a q here
      (reachable_kept (world_of h) (births_of p) q.birth r)

  -- what roots refer to

  pub register_named : (t r : ℕ) → NamesReachable h p (as_word (register_of h t r)) (name_of p t r)
  register_named t r = record {
    names = plain.registers t r;
    reachable = λ b e. Start b (InRegister t r e);
  }

  pub global_named : (g : ℕ) → NamesReachable h p (as_word (global_of h g)) (flat (slice_get p.globals g))
  unfolding global_of
  global_named g = record {
    names = ap (names (world_of h)) (sym (global_same (slice_get h.globals g))) ∙ plain.globals g;
    reachable = λ b e. Start b (InGlobal g e);
  }

  -- the current place of a reference's object

  pub handle_seen : (a : ℕ) (n : Bool) (found : Option ℕ) → NamesReachable h p (To a n) found
      → SeesReachable h p (resolve (world_of h) a)
  handle_seen a n found v =
      let o : NamedObject (world_of h) (resolve (world_of h) a) found =
      reading.named (world_of h) a n found v.names in
      record { object = o.object; here = o.here; reachable = v.reachable o.object.birth o.birth }

  pub named_seen : (a : ℕ) (n : Bool) (found : Option ℕ) → NamesReachable h p (To a n) found
      → found ≡ Some (birth_in (current (world_of h) (resolve (world_of h) a)))
  named_seen a n found v =
      let o : NamedObject (world_of h) (resolve (world_of h) a) found =
      reading.named (world_of h) a n found v.names in
      o.birth ∙ ap (λ x. Some (birth_in x)) (sym o.here)

  -- an address on a page that isn't protected is its object's current place
  pub stays_there : (a : ℕ) → is_protected (state_at h.store (a / h.store.words)) ≡ false → resolve (world_of h) a ≡ a
  stays_there a free = by_entry ((world_of h).side_entry a) refl
    where
      by_entry : (e : SideEntry) → (world_of h).side_entry a ≡ e → resolve_by e a ≡ a
      by_entry NoEntry e = refl
      by_entry (Planned n) e = refl
      by_entry (Copied n) e = let z = k.invariant.objects.copied_from a n e in cc

  -- fields

  module _ (a : ℕ) (x : SeesReachable h p a) where
    abbrev q : HeapObject
    q = x.object

    here : object_at h a ≡ Some q
    here = current_there (world_of h) a q x.here

    holds : At (world_of h) (births_of p) a q
    holds = is_at a q x.here x.reachable

    birth_here : birth_in (current (world_of h) a) ≡ q.birth
    birth_here = ap birth_in x.here

    -- a reference that exists is in the reference model
    pub field_plain : (i ahead : ℕ) → field_at h a i ≡ Some (a + ahead)
        → field_of (slice_get p.objects (birth_in (current (world_of h) a))) i ≡ Some (ref (births_of p) q.birth i)
    field_plain i ahead at =
        let (low, spot) = field_there h a q here i (a + ahead) at in
        ap (λ b. field_of (slice_get p.objects b) i) birth_here
        ∙ plain_field (slice_get p.objects q.birth) i (omega (arith, low, holds.refs_length))

    -- a reference that doesn't exist isn't in the reference model
    pub field_missing : (i : ℕ) → field_at h a i ≡ None
        → field_of (slice_get p.objects (birth_in (current (world_of h) a))) i ≡ None
    field_missing i e = ap (λ b. field_of (slice_get p.objects b) i) birth_here
        ∙ none (slice_get p.objects q.birth) (omega (arith, field_past h a q here i e, holds.refs_length))
      where
        none : (o : Option Object) → length (refs_in o) ≤ i → field_of o i ≡ None
        none None m = refl
        none (Some o) m = slice_get_past o.refs i m

    -- data

    pub datum_missing : (j : ℕ) → datum_at h a j ≡ None
        → datum_of (slice_get p.objects (birth_in (current (world_of h) a))) j ≡ None
    datum_missing j e = ap (λ b. datum_of (slice_get p.objects b) j) birth_here
        ∙ none (slice_get p.objects q.birth)
        (omega (arith, datum_past h a q here j e, ap (λ (l : List ℕ). length l) holds.data_words))
      where
        none : (o : Option Object) → length (data_in o) ≤ j → datum_of o j ≡ None
        none None m = refl
        none (Some o) m = slice_get_past o.data_words j m

    -- headers

    header_is : (header : ℕ) → word_at h.store a ≡ Some header → (there h a q here).read.header ≡ header
    header_is header e =
        let t = there h a q here in
        let z : word_at h.store a ≡ Some t.read.header = word_on_page h.store a
        ∙ ap (option_and_then (λ ws. slice_get ws (a % h.store.words))) t.page ∙ t.read.at in
        cc

    pub birth_plain : (header : ℕ) → word_at h.store a ≡ Some header
        → birth_in (current (world_of h) a) ≡ birth_of header
    birth_plain header e = birth_here ∙ ap (λ (o : HeapObject). o.birth) (there h a q here).read.is
        ∙ ap birth_of (header_is header e)

    pub layout_known : (header : ℕ) → word_at h.store a ≡ Some header
        → slice_get h.config.layouts (layout_of header) ≡ None → ⊥
    layout_known header word e =
        let t = there h a q here in
        let z : Some t.read.shape ≡ None =
        sym t.read.known ∙ ap (λ n. slice_get h.config.layouts (layout_of n)) (header_is header word) ∙ e in
        absurd (cc)

    pub shape_plain : (header : ℕ) (l : Layout) → word_at h.store a ≡ Some header
        → slice_get h.config.layouts (layout_of header) ≡ Some l
        → IsShaped (slice_get p.objects (birth_in (current (world_of h) a))) (layout_of header) l.refs l.nums
    shape_plain header l e known =
        let t = there h a q here in
        let head = header_is header e in
        let low : q.birth < length p.objects =
        omega (arith, k.invariant.objects.births a q here, k.invariant.births) in
        let (o, found) = get_within p.objects q.birth low in
        let number : q.layout ≡ layout_of header =
        ap (λ (o : HeapObject). o.layout) t.read.is ∙ ap layout_of head in
        let shape : t.read.shape ≡ l = same_Some t.read.shape l
        (sym t.read.known ∙ ap (λ n. slice_get h.config.layouts (layout_of n)) head ∙ known) in
        let refs : length q.refs ≡ l.refs =
        read_refs h.config.layouts t.words (a % h.store.words) q t.read ∙ ap (λ (l : Layout). l.refs) shape in
        let nums : length q.data_words ≡ l.nums =
        read_data h.config.layouts t.words (a % h.store.words) q t.read ∙ ap (λ (l : Layout). l.nums) shape in
        let same : q.layout ≡ o.layout = holds.layout ∙ ap layout_in found in
        let as_many : length q.refs ≡ length o.refs =
        holds.refs_length ∙ ap (λ x. length (refs_in x)) found in
        let same_data : q.data_words ≡ o.data_words = holds.data_words ∙ ap data_in found in
        subst (λ x. IsShaped x (layout_of header) l.refs l.nums)
        (sym (ap (slice_get p.objects) birth_here ∙ found))
        (sym same ∙ number, sym as_many ∙ refs, ap (λ (l : List ℕ). length l) (sym same_data) ∙ nums)

    module _ (s : IsStore h.store) where
      -- a reference that was read leads to what the reference model has
      pub field_named : (i ahead bits : ℕ) → field_at h a i ≡ Some (a + ahead)
          → word_at h.store (a + ahead) ≡ Some bits
          → NamesReachable h p (as_word (read_reference bits)) (ref (births_of p) q.birth i)
      field_named i ahead bits at word =
          let (low, spot) = field_there h a q here i (a + ahead) at in
          let read : field q i ≡ word_in_memory bits =
          field_is h s k.laid a q here i bits low (ap (word_at h.store) spot ∙ word) in
          let stood : names (world_of h) (word_in_memory bits) ≡ Some (ref (births_of p) q.birth i) =
          ap (names (world_of h)) (sym read) ∙ (holds.refs i).names in
          record {
            names = ap (names (world_of h)) (sym (read_named h bits (ref (births_of p) q.birth i) stood)) ∙ stood;
            reachable = λ b e. Next q.birth b i x.reachable e;
          }

      -- each word of an object is in memory
      word_is : (n : ℕ) → n < object_size q → word_at h.store (a + n) ≡ None → ⊥
      word_is n low e =
          let t = there h a q here in
          let (v, found) = get_within t.words (a % h.store.words + n)
          (omega (arith, low, read_fits h.config.layouts t.words (a % h.store.words) q t.read)) in
          let z = word_there h s k.laid a q here n 0 low in
          absurd (cc)

      pub field_readable : (i ahead : ℕ) → field_at h a i ≡ Some (a + ahead) → word_at h.store (a + ahead) ≡ None → ⊥
      field_readable i ahead at e =
          let (low, spot) = field_there h a q here i (a + ahead) at in
          word_is (1 + i) (omega (arith, low)) (ap (word_at h.store) spot ∙ e)

      pub datum_plain : IsHeap h → (j ahead v : ℕ) → datum_at h a j ≡ Some (a + ahead) → word_at h.store (a + ahead) ≡ Some v
          → datum_of (slice_get p.objects (birth_in (current (world_of h) a))) j ≡ Some v
      datum_plain d j ahead v at word =
          let (low, spot) = datum_there h a q here j (a + ahead) at in
          let read = datum_read s d k 0 a q here j v low (ap (word_at h.store) spot ∙ word) in
          ap (λ b. datum_of (slice_get p.objects b) j) birth_here
          ∙ by_object (slice_get p.objects q.birth) q.data_words holds.data_words read
        where
          by_object : (o : Option Object) (ds : List ℕ) → ds ≡ data_in o → slice_get ds j ≡ Some v → datum_of o j ≡ Some v
          by_object None ds e f = absurd (let z = ap (λ l. slice_get l j) e in cc)
          by_object (Some o) ds e f = ap (λ l. slice_get l j) (sym e) ∙ f

      pub datum_readable : (j ahead : ℕ) → datum_at h a j ≡ Some (a + ahead) → word_at h.store (a + ahead) ≡ None → ⊥
      datum_readable j ahead at e =
          let (low, spot) = datum_there h a q here j (a + ahead) at in
          word_is (1 + length q.refs + j) (omega (arith, low)) (ap (word_at h.store) spot ∙ e)

      pub header_readable : word_at h.store a ≡ None → ⊥
      header_readable e = word_is 0 (omega arith) (ap (word_at h.store) (omega arith) ∙ e)

  -- two handles of a heap have one address exactly if they refer to one birth
  pub same_birth : (a c : ℕ) → SeesReachable h p a → SeesReachable h p c
      → birth_in (current (world_of h) a) ≡ birth_in (current (world_of h) c) → a ≡ c
  same_birth a c x y e = k.invariant.objects.one_current a c x.object y.object x.here y.here
      (ap birth_in (sym x.here) ∙ e ∙ ap birth_in y.here)
