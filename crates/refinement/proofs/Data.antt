-- Steps that read or write a datum.
use Rattle.std.proofs.Common.{◌≡◌, ℕ, ◌+◌, ◌%◌, ◌<◌, List, length, Option, Some, None, refl, sym, ◌∙◌, ap, subst}
use Rattle.std.proofs.Common.{arith}
use Rattle.std.specs.List.{slice_get}
use Rattle.model.specs.declared.steps.Actor.TheVariants.{Thread}
use Rattle.model.specs.declared.steps.Step.TheVariants as steps
use Rattle.model.specs.declared.steps.Answer.TheVariants as answers
use Rattle.model.specs.Stores.{word_at}
use Rattle.model.specs.Owning.{IsStore}
use Rattle.model.specs.Holding.{IsHeap}
use Rattle.model.specs.States.{HeapState}
use Rattle.model.specs.Data.{datum_outcome, set_datum_outcome}
use Rattle.model.specs.Plain.{PlainHeap, Object, plain_step, plain_answer, name_of, object_of, datum_of, as_datum}
use Rattle.laws.specs.AddressHeap.{HeapObject}
use Rattle.refinement.specs.Worlds.{object_at}
use Rattle.refinement.specs.PlainHeaps.{data_in}
use Rattle.refinement.specs.Standing.{Holds, AnswersPlain}
use Rattle.refinement.proofs.Accepted.{on_some}
use Rattle.refinement.proofs.Slices.{get_run}
use Rattle.refinement.proofs.ObjectWords.{read_refs, read_data}
use Rattle.refinement.proofs.Objects.{there}
use Rattle.refinement.proofs.Carrying.{RowHolds, read_by, row_by}
use Rattle.refinement.proofs.Written.{word_there, datum_carries}
use Rattle.refinement.proofs.Verdicts.{Passed}
use Rattle.laws.specs.Transitions.{SetDatum}
use Rattle.refinement.proofs.PlainSteps.{writing_follows}
use Rattle.refinement.proofs.Naming.{on_named, on_datum}

module _ {h : HeapState} {p p0 : PlainHeap} (s : IsStore h.store) (d : IsHeap h) (k : Holds h p p0) (t : ℕ) where
  datum_answer : (o : Option Object) (ds : List ℕ) (j v : ℕ) → ds ≡ data_in o → slice_get ds j ≡ Some v
      → as_datum (datum_of o j) ≡ Some (answers.Datum v)
  datum_answer None ds j v e f = absurd (no (sym (ap (λ l. slice_get l j) e) ∙ f))
    where
      no : None ≡ Some v → ⊥
      no z = cc
  datum_answer (Some q) ds j v e f = ap as_datum (sym (ap (λ l. slice_get l j) e) ∙ f)

  -- the datum of an object, in memory
  pub datum_read : (a : ℕ) (q : HeapObject) (e : object_at h a ≡ Some q) (j v : ℕ) → j < length q.data_words
      → word_at h.store (a + (1 + length q.refs + j)) ≡ Some v → slice_get q.data_words j ≡ Some v
  datum_read a q e j v low f =
      let r = there h a q e in
      let refs = read_refs h.config.layouts r.words (a % h.store.words) q r.read in
      let nums = read_data h.config.layouts r.words (a % h.store.words) q r.read in
      let within : j < r.read.shape.nums = omega (arith, low, nums) in
      let word = word_there h s k.laid a q e (1 + length q.refs + j) 0 (omega (arith, low)) in
      ap (λ (z : HeapObject). slice_get z.data_words j) r.read.is
      ∙ get_run r.words (a % h.store.words + 1 + r.read.shape.refs) r.read.shape.nums j within
      ∙ ap (slice_get r.words) (omega (arith, refs)) ∙ sym word ∙ f

  pub datum_holds : (r j : ℕ) → Passed h t (steps.Datum r j)
      → RowHolds h p p0 (Thread t) (steps.Datum r j) (datum_outcome h t r j)
  unfolding datum_outcome plain_step plain_answer name_of
  datum_holds r j g = on_named k t r _ _ (λ a names. on_datum names j _ _ _ (λ n low spot.
      on_some (word_at h.store n) _ _ _ (λ v third.
      let q = names.object in
      let read = datum_read a q names.uses.here j v low (ap (word_at h.store) spot ∙ third) in
      let plain : as_datum (datum_of (object_of p (name_of p t r)) j) ≡ Some (answers.Datum v) =
      ap (λ o. as_datum (datum_of (object_of p o) j)) names.reads.birth
      ∙ datum_answer (slice_get p.objects q.birth) q.data_words j v names.reads.data_words read in
      read_by k (subst (λ o. AnswersPlain o (answers.Datum v)) (sym plain) refl))))

  -- a datum is written
  pub set_datum_holds : (r j v : ℕ) → Passed h t (steps.SetDatum r j v)
      → RowHolds h p p0 (Thread t) (steps.SetDatum r j v) (set_datum_outcome h t r j v)
  unfolding set_datum_outcome plain_step plain_answer
  set_datum_holds r j v g = on_named k t r _ _ (λ a names. on_datum names j _ _ _ (λ n low spot.
      row_by k (datum_carries h s k.laid a names.object names.uses.here j n v low spot)
      (writing_follows h p (name_of p t r) j v) (SetDatum t r a names.object j v names.uses) tt))
