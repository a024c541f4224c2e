-- Steps on registers alone: the contents of registers, the reference model's answers, and registers that are written.
use Rattle.std.proofs.Common.{◌≡◌, ◌↔◌, inl, inr, ℕ, Bool, true, false, nat_eq, is_none, Option, Some, None, refl}
use Rattle.std.proofs.Common.{sym, ◌∙◌, ap, ap₂, eq-eqb, ne_eqb}
use Rattle.std.proofs.lemmas.Option.{same_Some}
use Rattle.std.proofs.lemmas.Bool.{eqb-true, eqb-false}
use Rattle.model.specs.declared.steps.Actor.TheVariants.{Thread}
use Rattle.model.specs.declared.steps.Step.TheVariants as steps
use Rattle.model.specs.declared.steps.Answer.TheVariants as answers
use Rattle.model.specs.Owning.{IsStore}
use Rattle.model.specs.Holding.{IsHeap}
use Rattle.model.specs.States.{HeapState, Reference}
use Rattle.model.specs.Registers.{register_of, same_outcome, is_null_outcome, usable_or_null, same_address}
use Rattle.model.specs.Registers.{copy_register_outcome, clear_register_outcome}
use Rattle.model.specs.Plain.{PlainHeap, plain_step, plain_answer, name_of, same_name}
use Rattle.laws.specs.AddressHeap.{Null, To}
use Rattle.laws.proofs.Promises.{same, null_is_none}
use Rattle.refinement.specs.Worlds.{world_of, as_word}
use Rattle.refinement.specs.PlainHeaps.{births_of}
use Rattle.refinement.specs.Standing.{Holds}
use Rattle.refinement.proofs.Accepted.{on_has}
use Rattle.refinement.proofs.Carrying.{RowHolds, read_by, row_by}
use Rattle.refinement.proofs.Verdicts.{Passed, NullOrUsed, null_or_used, first_false, closed_barrier, is_register}
use Rattle.model.specs.Outcome.{no_register}
use Rattle.laws.specs.Transitions.{CopyReg, ClearReg}
use Rattle.refinement.proofs.Rooted.{register_word}
use Rattle.refinement.proofs.Threads.{register_carries}
use Rattle.refinement.proofs.PlainSteps.{naming_follows}
use Rattle.refinement.proofs.Naming.{names_object}

none_none : (o : Option ℕ) (w : Reference) → (as_word w ≡ Null) ↔ (o ≡ None) → is_none w ≡ is_none o
none_none None None e = refl
none_none (Some b) (Some w) e = refl
none_none None (Some w) e = absurd (no (e.1 refl))
  where
    no : To w.0 w.1 ≡ Null → ⊥
    no z = cc
none_none (Some b) None e = absurd (no (e.0 refl))
  where
    no : Some b ≡ None → ⊥
    no z = cc

no_word : (w : Reference) → w ≡ None → as_word w ≡ Null
no_word w e = ap as_word e

module _ {h : HeapState} {p p0 : PlainHeap} (s : IsStore h.store) (d : IsHeap h) (k : Holds h p p0) (t : ℕ) where
  -- a register gets another's reference
  pub copy_holds : (r q : ℕ) → Passed h t (steps.CopyReg r q)
      → RowHolds h p p0 (Thread t) (steps.CopyReg r q) (copy_register_outcome h t r q)
  unfolding copy_register_outcome plain_step plain_answer
  copy_holds r q g =
      let low = is_register h r (first_false (no_register h r) (no_register h q) g.indices) in
      row_by k (register_carries h t g.thread g.there r (register_of h t q) k.laid (register_word h t q k.words) low)
      (naming_follows k t g.thread g.there r (name_of p t q) low) (CopyReg t r q (closed_barrier g refl)) tt

  -- a register becomes null
  pub clear_holds : (r : ℕ) → Passed h t (steps.ClearReg r)
      → RowHolds h p p0 (Thread t) (steps.ClearReg r) (clear_register_outcome h t r)
  unfolding clear_register_outcome plain_step plain_answer
  clear_holds r g =
      let low = is_register h r g.indices in
      row_by k (register_carries h t g.thread g.there r None k.laid tt low)
      (naming_follows k t g.thread g.there r None low) (ClearReg t r (closed_barrier g refl)) tt

  pub is_null_holds : (r : ℕ) → Passed h t (steps.IsNull r)
      → RowHolds h p p0 (Thread t) (steps.IsNull r) (is_null_outcome h t r)
  unfolding is_null_outcome plain_step plain_answer name_of register_of
  is_null_holds r g = read_by k (ap answers.Truth (none_none (name_of p t r) (register_of h t r)
      (null_is_none (world_of h) (births_of p) (births_of p0) k.invariant t r)))

  -- addresses and births

  same_numbers : (a c b d : ℕ) → (a ≡ c) ↔ (Some b ≡ Some d) → nat_eq a c ≡ nat_eq b d
  same_numbers a c b d e = by_test (nat_eq b d) refl
    where
      by_test : (y : Bool) → nat_eq b d ≡ y → nat_eq a c ≡ y
      by_test true z = eq-eqb a c (e.1 (ap Some (eqb-true b d z)))
      by_test false z = ne_eqb a c (λ q. eqb-false b d z (same_Some _ _ (e.0 q)))

  no_name : (r : ℕ) → register_of h t r ≡ None → name_of p t r ≡ None
  unfolding name_of register_of
  no_name r e =
      (null_is_none (world_of h) (births_of p) (births_of p0) k.invariant t r).0 (no_word (register_of h t r) e)

  same_truth : (l r : ℕ) (a b : Option ℕ)
      → NullOrUsed h t l a → NullOrUsed h t r b
      → same_address a b ≡ same_name (name_of p t l) (name_of p t r)
  unfolding name_of register_of
  same_truth l r a b (inl (f, g)) (inl (m, n)) = ap₂ same_address f m ∙ sym (ap₂ same_name (no_name l g) (no_name r n))
  same_truth l r a b (inl (f, g)) (inr (c, m, u)) =
      ap₂ same_address f m ∙ sym (ap₂ same_name (no_name l g) (names_object k t r c u).reads.birth)
  same_truth l r a b (inr (c, m, u)) (inl (f, g)) =
      ap₂ same_address m f ∙ sym (ap₂ same_name (names_object k t l c u).reads.birth (no_name r g))
  same_truth l r a b (inr (c, m, u)) (inr (d, n, v)) =
      let y = names_object k t l c u in
      let z = names_object k t r d v in
      let both = same (world_of h) (births_of p) (births_of p0) k.invariant t l r c d y.object z.object y.uses z.uses in
      let names : (c ≡ d) ↔ (Some y.object.birth ≡ Some z.object.birth) = (
        (λ e. sym y.reads.birth ∙ both.0 e ∙ z.reads.birth),
        (λ e. both.1 (y.reads.birth ∙ e ∙ sym z.reads.birth)),
      ) in
      ap₂ same_address m n ∙ same_numbers c d y.object.birth z.object.birth names
      ∙ sym (ap₂ same_name y.reads.birth z.reads.birth)

  pub same_holds : (l r : ℕ) → Passed h t (steps.Same l r)
      → RowHolds h p p0 (Thread t) (steps.Same l r) (same_outcome h t l r)
  unfolding same_outcome plain_step plain_answer name_of register_of
  same_holds l r g = on_has (usable_or_null h t l) _ _ _ (null_or_used h t l) (λ a first.
      on_has (usable_or_null h t r) _ _ _ (null_or_used h t r) (λ b second.
      read_by k (ap answers.Truth (same_truth l r a b first second))))
