-- Where the references of a heap's image lead: one that refers to a birth in the heap leads to the birth's current
-- object.
use Rattle.std.proofs.Common.{◌≡◌, ℕ, ◌+◌, Bool, length, Option, Some, None, refl, sym, ap, ◌∙◌, arith, nat_lt, cond}
use Rattle.std.proofs.lemmas.Option.{none-some, same_Some}
use Rattle.std.proofs.lemmas.Bool.{ltb-true}
use Rattle.refword.specs.Words.{read_word}
use Rattle.model.specs.Stores.{word_at as store_word}
use Rattle.model.specs.Owning.{IsStore}
use Rattle.model.specs.Holding.{IsHeap}
use Rattle.model.specs.States.{HeapState}
use Rattle.model.specs.Plain.{PlainHeap}
use Rattle.laws.specs.AddressHeap.{HeapObject, names, birth_of, current, field as ref_field}
use Rattle.laws.specs.AddressHeap.{resolve as world_resolve}
use Rattle.laws.proofs.Basics.{current_there}
use Rattle.refinement.specs.Worlds.{world_of, word_in_memory, as_read}
use Rattle.refinement.specs.Standing.{Holds}
use Rattle.refinement.proofs.Loads.{field_is, none_at_zero}
use Rattle.verify.specs.Images.{leads, word_leads, start_found, object_at, field, word_at}
use Rattle.verify.specs.Pictures.{image_of}
use Rattle.heap_images.proofs.Lists.{tested}
use Rattle.heap_images.proofs.Pages.{word_is}
use Rattle.heap_images.proofs.Copies.{resolve_is}
use Rattle.heap_images.proofs.Objects.{object_to}

-- a number in memory that represents x leads to nothing if x is no birth, else to the birth's current object
pub record Leads (h : HeapState) (v : ℕ) (x : Option ℕ) : Type 0 where
  pub found : Option ℕ
  pub leads_to : leads (image_of h) v ≡ Some found
  pub current_at : (c : ℕ) → found ≡ Some c → (q : HeapObject) × (current (world_of h) c ≡ Some q) × (x ≡ Some q.birth)

module _ {h : HeapState} {p p0 : PlainHeap} (s : IsStore h.store) (d : IsHeap h) (k : Holds h p p0) where
  -- a reference of a current object is what the image has in that field
  pub field_there : (a i v : ℕ) (q : HeapObject) → current (world_of h) a ≡ Some q → field (image_of h) a i ≡ Some v
      → ref_field q i ≡ word_in_memory v
  unfolding field
  field_there a i v q e f =
      let here = current_there (world_of h) a q e in
      let read : cond (nat_lt i (length q.refs)) (word_at (image_of h) (a + 1 + i)) None ≡ Some v =
      rw (object_to h s d a q here) at f in
      let (low, word) = tested (nat_lt i (length q.refs)) (word_at (image_of h) (a + 1 + i)) v read in
      let spot : a + (1 + i) ≡ a + 1 + i = omega arith in
      field_is h s k.laid a q here i v (ltb-true i (length q.refs) low)
      (ap (store_word h.store) spot ∙ sym (word_is h (a + 1 + i)) ∙ word)

  -- a number that refers to a birth, or to nothing, leads there
  pub leads_as_named : (v : ℕ) (x : Option ℕ) → names (world_of h) (word_in_memory v) ≡ Some x → Leads h v x
  unfolding leads
  leads_as_named v x e = by_word (read_word v) refl e
    where
      by_current : (a : ℕ) (n : Bool) (o : Option HeapObject) → read_word v ≡ Some (Some (a, n))
          → current (world_of h) (world_resolve (world_of h) a) ≡ o → birth_of o ≡ Some x → Leads h v x
      by_current a n None r f g = absurd (none-some x g)
      by_current a n (Some q) r f g =
          let to = world_resolve (world_of h) a in
          let resolved = resolve_is h a (λ n. k.invariant.objects.copied_from a n) in
          let object = object_to h s d to q (current_there (world_of h) to q f) in
          record {
            found = Some to;
            leads_to =
                ap (word_leads (image_of h)) r ∙ ap (λ y. start_found y (object_at (image_of h) y)) resolved
                ∙ ap (start_found to) object;
            current_at = λ c e. (q, ap (current (world_of h)) (sym (same_Some to c e)) ∙ f, sym (same_Some _ _ g));
          }

      by_word : (r : Option (Option (ℕ × Bool))) → read_word v ≡ r → names (world_of h) (as_read r) ≡ Some x
          → Leads h v x
      by_word None r f = absurd (none-some x (sym (none_at_zero h) ∙ f))
      by_word (Some None) r f = record {
        found = None;
        leads_to = ap (word_leads (image_of h)) r;
        current_at = λ c e. absurd (none-some c e);
      }
      by_word (Some (Some w)) r f =
          by_current w.0 w.1 (current (world_of h) (world_resolve (world_of h) w.0)) r refl f
