-- The object of a usable register lies completely on its page; and the pages of references have records.
use Rattle.std.proofs.Common.{◌≡◌, ℕ, zero, suc, ◌+◌, ◌-◌, ◌/◌, ◌%◌, ◌^◌, ◌<◌, ◌≤◌, nat_le, Bool, true, false, List, [], ◌∷◌}
use Rattle.std.proofs.Common.{length, get_or, Option, Some, None, refl, sym, ◌∙◌, ap, subst, arith, leb-true}
use Rattle.std.specs.Prelude.{Ok, IfSome, slice_get}
use Rattle.std.proofs.lemmas.Bool.Decides.{nat_tests}
use Rattle.std.proofs.lemmas.Option.{none-some, slice_get_within}
use Rattle.refword.specs.Words.{read_word}
use Rattle.refword.proofs.Reading.{bits_of-read_word, read_word-is_word}
use Rattle.model.specs.declared.records.Forwarding.{Forwarding}
use Rattle.model.specs.Bits.{of_page}
use Rattle.model.specs.Owning.{IsStore}
use Rattle.model.specs.Plain.{PlainHeap}
use Rattle.model.specs.References.{field_at, read_reference}
use Rattle.model.specs.Registers.{register_of, usable}
use Rattle.model.specs.States.{HeapState, Reference, flat}
use Rattle.model.specs.Stores.{StoreState, word_at, words_at}
use Rattle.model.proofs.Memory.{page_used}
use Rattle.laws.specs.AddressHeap.{HeapObject, SideEntry, NoEntry, To, birth_of, current_by, resolve_by, field}
use Rattle.laws.specs.AddressHeap.{names as names_of}
use Rattle.laws.proofs.Promises.{stands}
use Rattle.page.specs.Whole.{AreWhole, IsRecorded, IsWhole}
use Rattle.refinement.specs.Claims.{AreSidesOf}
use Rattle.refinement.specs.Naming.{NamesWhole}
use Rattle.refinement.specs.PlainHeaps.{births_of}
use Rattle.refinement.specs.Standing.{Holds}
use Rattle.refinement.specs.Worlds.{as_read, as_word, entry_at, object_at, word_in_memory, world_of}
use Rattle.refinement.proofs.Accepted.{OnAccepted}
use Rattle.refinement.proofs.Loads.{field_is, none_at_zero}
use Rattle.refinement.proofs.Naming.{NamesObject, names_object}
use Rattle.refinement.proofs.Objects.{there}
use Rattle.refinement.proofs.Verdicts.{IsUsed, field_there, used}

-- ---- objects

whole : (h : HeapState) (p : PlainHeap) (t r a : ℕ) → NamesObject h p t r a → IsWhole h.store h.config.layouts a
whole h p t r a names =
    let q = there h a names.object names.uses.here in
    record {
      words = q.words;
      header = q.read.header;
      layout = q.read.shape;
      page = q.page;
      headed = q.read.at;
      named = q.read.known;
      ends = q.read.fits;
    }

-- ---- pages

past_all : {X : Type 0} (xs : List X) (i : ℕ) (d : X) → length xs ≤ i → get_or xs i d ≡ d
past_all [] i d l = refl
past_all (x ∷ xs) zero d l = absurd (omega (arith, l))
past_all (x ∷ xs) (suc i) d l = past_all xs i d (omega (arith, l))

none_past : {X : Type 0} (xs : List (List X)) (n : ℕ) → length xs < n → of_page xs n ≡ []
none_past xs zero l = refl
none_past xs (suc i) l = past_all xs i [] (omega (arith, l))

-- an object is on a page that has a record
object_recorded : (h : HeapState) (a : ℕ) (q : HeapObject) → IsStore h.store → object_at h a ≡ Some q
    → IsRecorded h.store a
object_recorded h a q s e =
    let k = there h a q e in
    let page = page_used h.store (a / h.store.words) k.words s k.page in
    omega (arith, slice_get_within h.store.pages (a / h.store.words - 1) page.0 page.1)

-- so is the address of a reference, directly or by its entry
named_recorded : (h : HeapState) (a : ℕ) (b : Bool) (x : Option ℕ) → IsStore h.store → AreSidesOf h.store h.sides
    → names_of (world_of h) (To a b) ≡ Some x → IsRecorded h.store a
named_recorded h a b x s sides named = by_place (nat_le (a / h.store.words) (length h.store.pages)) refl
  where
    by_object : (o : Option HeapObject) → object_at h a ≡ o → birth_of o ≡ Some x → IsRecorded h.store a
    by_object None e k = absurd (cc)
    by_object (Some q) e k = object_recorded h a q s e

    by_entry : (entry : SideEntry) → (world_of h).side_entry a ≡ entry → entry ≡ NoEntry → IsRecorded h.store a
    by_entry entry e none =
        let no : (world_of h).side_entry a ≡ NoEntry = e ∙ none in
        by_object (object_at h a) refl
        (sym (ap (λ y. birth_of (current_by y (object_at h a))) no)
        ∙ sym (ap (λ y. birth_of (current_by ((world_of h).side_entry (resolve_by y a)) (object_at h (resolve_by y a)))) no)
        ∙ named)

    by_place : (y : Bool) → nat_le (a / h.store.words) (length h.store.pages) ≡ y → IsRecorded h.store a
    by_place true e = leb-true (a / h.store.words) (length h.store.pages) e
    by_place false e =
        let far : length h.store.pages < a / h.store.words = grind (arith, nat_tests, e) in
        let none : of_page h.sides (a / h.store.words) ≡ [] = none_past h.sides (a / h.store.words)
        (omega (arith, far, sides.pages)) in
        by_entry ((world_of h).side_entry a) refl
        (ap (λ (fs : List Forwarding). entry_at fs (a % h.store.words)) none)

reference_recorded : (h : HeapState) (v : Reference) (x : Option ℕ) → IsStore h.store → AreSidesOf h.store h.sides
    → names_of (world_of h) (as_word v) ≡ Some x → IfSome v (λ w. IsRecorded h.store w.0)
reference_recorded h None x s sides named = tt
reference_recorded h (Some w) x s sides named = named_recorded h w.0 w.1 x s sides named

-- ---- bits in memory

zero_recorded : (h : HeapState) → IsStore h.store → IsRecorded h.store 0
zero_recorded h s = omega (arith, s.sized.words_low)

word_number : (bits a : ℕ) (b : Bool) → read_word bits ≡ Some (Some (a, b)) → a ≡ bits % 2 ^ 63
word_number bits a false e =
    let k = bits_of-read_word bits (Some (a, false)) e in
    let l = (read_word-is_word bits (Some (a, false)) e).below in
    omega (arith, k, l)
word_number bits a true e =
    let k = bits_of-read_word bits (Some (a, true)) e in
    let l = (read_word-is_word bits (Some (a, true)) e).below in
    omega (arith, k, l)

bits_recorded : (h : HeapState) (bits : ℕ) (x : Option ℕ) → IsStore h.store → AreSidesOf h.store h.sides
    → names_of (world_of h) (word_in_memory bits) ≡ Some x → IsRecorded h.store (bits % 2 ^ 63)
bits_recorded h bits x s sides named = by_word (read_word bits) refl named
  where
    by_word : (r : Option Reference) → read_word bits ≡ r → names_of (world_of h) (as_read r) ≡ Some x
        → IsRecorded h.store (bits % 2 ^ 63)
    by_word None e k = absurd (none-some x (sym (none_at_zero h) ∙ k))
    by_word (Some None) e k =
        let is : 0 ≡ bits = bits_of-read_word bits None e in
        subst (IsRecorded h.store) (ap (λ n. n % 2 ^ 63) is) (zero_recorded h s)
    by_word (Some (Some w)) e k =
        subst (IsRecorded h.store) (word_number bits w.0 w.1 e) (named_recorded h w.0 w.1 x s sides k)

-- ---- both

module _ (h : HeapState) (p p0 : PlainHeap) (k : Holds h p p0) where
  is_used : (t r a : ℕ) → usable h t r ≡ Ok a → IsUsed h t r a
  is_used t r a e = subst (OnAccepted (IsUsed h t r)) e (used h t r)

  field_recorded : (s : IsStore h.store) (t r a i place bits : ℕ) (n : NamesObject h p t r a)
      → field_at h a i ≡ Some place → word_at h.store place ≡ Some bits → IsRecorded h.store (bits % 2 ^ 63)
  field_recorded s t r a i place bits n at read =
      let (low, spot) = field_there h a n.object n.uses.here i place at in
      let is : field n.object i ≡ word_in_memory bits =
      field_is h s k.laid a n.object n.uses.here i bits low (ap (word_at h.store) spot ∙ read) in
      bits_recorded h bits _ s k.laid.sides (sym (ap (names_of (world_of h)) is) ∙ (n.holds.refs i).names)

  pub are_whole : IsStore h.store → AreWhole h
  are_whole s = record {
    whole = λ t r a e. whole h p t r a (names_object k t r a (is_used t r a e));
    registers = λ t r. reference_recorded h (register_of h t r) _ s k.laid.sides
        ((stands (world_of h) (births_of p) (births_of p0) k.invariant).registers t r);
    fields = λ t r a i place bits e at read.
        field_recorded s t r a i place bits (names_object k t r a (is_used t r a e)) at read;
  }

pub names_whole : NamesWhole
names_whole h p p0 s k = are_whole h p p0 k s
