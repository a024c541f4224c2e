-- The image of a heap that represents a reference model is sound.
use Rattle.std.proofs.Common.{◌≡◌, ◌⊎◌, inl, inr, ℕ, ◌/◌, false, Some, sym, ap, ◌∙◌}
use Rattle.std.proofs.lemmas.Option.{same_Some}
use Rattle.model.specs.Owning.{IsStore}
use Rattle.model.specs.Holding.{IsHeap}
use Rattle.model.specs.States.{HeapState}
use Rattle.model.specs.Plain.{PlainHeap}
use Rattle.laws.specs.AddressHeap.{HeapObject, current, names, field as ref_field}
use Rattle.laws.specs.BirthHeap.{ref, IsReached as IsBirthReached}
use Rattle.laws.specs.Invariant.{IsKept, HasCurrent}
use Rattle.laws.proofs.Basics.{current_there}
use Rattle.refinement.specs.Worlds.{world_of, word_in_memory, object_at as world_object}
use Rattle.refinement.specs.PlainHeaps.{births_of}
use Rattle.refinement.specs.Standing.{Holds}
use Rattle.refinement.proofs.Objects.{there}
use Rattle.verify.specs.Images.{field, is_copied}
use Rattle.verify.specs.Soundness.{IsGood, IsReached, IsSound, AreTwins}
use Rattle.verify.specs.Pictures.{image_of}
use Rattle.heap_images.proofs.Pages.{page_of_words}
use Rattle.heap_images.proofs.Copies.{copied_not}
use Rattle.heap_images.proofs.Objects.{object_from}
use Rattle.heap_images.proofs.Frames.{has_frames}
use Rattle.heap_images.proofs.Leading.{leads_as_named, field_there}
use Rattle.heap_images.proofs.Roots.{of_root}

-- a current object is at an address, and the reference model has its birth
record IsAnchored (h : HeapState) (p : PlainHeap) (a : ℕ) : Type 0 where
  object : HeapObject
  here : current (world_of h) a ≡ Some object
  kept : IsKept (world_of h) (births_of p) object.birth

module _ {h : HeapState} {p p0 : PlainHeap} (s : IsStore h.store) (d : IsHeap h) (k : Holds h p p0) where
  -- the value of a field of such an object represents what the reference model has there
  field_names : (a i v : ℕ) (t : IsAnchored h p a) → field (image_of h) a i ≡ Some v
      → names (world_of h) (word_in_memory v) ≡ Some (ref (births_of p) t.object.birth i)
  field_names a i v t e =
      let has : HasCurrent (world_of h) (births_of p) t.object.birth =
      k.invariant.words.kept t.object.birth t.kept in
      let same : has.address ≡ a =
      k.invariant.objects.one_current has.address a has.object t.object has.here t.here has.birth in
      let is : has.object ≡ t.object =
      same_Some has.object t.object (sym has.here ∙ ap (current (world_of h)) same ∙ t.here) in
      let read : ref_field has.object i ≡ word_in_memory v =
      ap (λ o. ref_field o i) is ∙ field_there s d k a i v t.object t.here e in
      ap (names (world_of h)) (sym read) ∙ (has.refs i).names

  -- an object that is reached in the image is such an object
  anchored : (a : ℕ) → IsReached (image_of h) a → IsAnchored h p a
  anchored _ (IsReached.FromRoot a v r e f) =
      let root = of_root k r v e in
      let to = leads_as_named s d k v root.named root.names in
      let (q, here, birth) = to.current_at a (same_Some to.found (Some a) (sym to.leads_to ∙ f)) in
      record { object = q; here = here; kept = IsBirthReached.Start q.birth (inl (root.root q.birth birth)) }
  anchored _ (IsReached.FromField c a i v r e f) =
      let from = anchored a r in
      let to = leads_as_named s d k v (ref (births_of p) from.object.birth i) (field_names a i v from e) in
      let (q, here, birth) = to.current_at c (same_Some to.found (Some c) (sym to.leads_to ∙ f)) in
      record { object = q; here = here; kept = IsBirthReached.Next from.object.birth q.birth i from.kept birth }

  -- the value of a field of a reached object is good
  good_field : (a i v : ℕ) → IsReached (image_of h) a → field (image_of h) a i ≡ Some v → IsGood (image_of h) v
  good_field a i v r e =
      let from = anchored a r in
      let to = leads_as_named s d k v (ref (births_of p) from.object.birth i) (field_names a i v from e) in
      (to.found, to.leads_to)

  -- an object that isn't copied is current
  uncopied : (a : ℕ) (q : HeapObject) → world_object h a ≡ Some q → is_copied (image_of h) a ≡ false
      → current (world_of h) a ≡ Some q
  uncopied a q e f =
      let t = there h a q e in
      let (page, at) = page_of_words h.store (a / h.store.words) t.words t.page in
      copied_not h a page q at f e

  -- an object that is reached, or isn't copied, is current
  current_of : (c : ℕ) (q : HeapObject) → world_object h c ≡ Some q
      → IsReached (image_of h) c ⊎ (is_copied (image_of h) c ≡ false) → current (world_of h) c ≡ Some q
  current_of c q e (inl r) =
      let t = anchored c r in t.here ∙ sym (current_there (world_of h) c t.object t.here) ∙ e
  current_of c q e (inr f) = uncopied c q e f

  -- no birth has two objects of which one is reached, and the other is reached too or wasn't copied
  no_twins : (a c n : ℕ) → AreTwins (image_of h) n a c → ⊥
  no_twins a c n t =
      let (q, at, birth) = object_from h s d a n k.laid t.first in
      let (r, there, other) = object_from h s d c n k.laid t.second in
      let first = current_of a q at (inl t.reached) in
      let second = current_of c r there t.other in
      t.apart (k.invariant.objects.one_current a c q r first second (birth ∙ sym other))

  -- all conditions
  pub image_sound : IsSound (image_of h)
  image_sound = record {
    frames = has_frames h s d;
    roots = λ r v e.
        let root = of_root k r v e in
        let to = leads_as_named s d k v root.named root.names in (to.found, to.leads_to);
    fields = good_field;
    alone = no_twins;
  }
