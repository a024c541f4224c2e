-- Steps that store a reference: in an object, or in a global.
use Rattle.std.proofs.Common.{◌≡◌, ℕ, ◌<◌, true, nat_lt, length, arith}
use Rattle.std.proofs.lemmas.Bool.Decides.{nat_tests}
use Rattle.model.specs.declared.steps.Actor.TheVariants.{Thread}
use Rattle.model.specs.declared.steps.Step.TheVariants as steps
use Rattle.model.specs.Owning.{IsStore}
use Rattle.model.specs.Holding.{IsHeap}
use Rattle.model.specs.States.{HeapState}
use Rattle.model.specs.Registers.{register_of, usable_or_null}
use Rattle.model.specs.References.{store_outcome, store_global_outcome}
use Rattle.model.specs.Outcome.{no_register, no_global}
use Rattle.model.specs.Plain.{PlainHeap, plain_step, plain_answer, name_of}
use Rattle.laws.specs.Transitions.{Store, StoreGlobal}
use Rattle.refinement.specs.Standing.{Holds}
use Rattle.refinement.proofs.Accepted.{on_bind}
use Rattle.refinement.proofs.Carrying.{RowHolds, row_by}
use Rattle.refinement.proofs.Rooted.{register_word}
use Rattle.refinement.proofs.Written.{field_carries}
use Rattle.refinement.proofs.Threads.{global_carries}
use Rattle.refinement.proofs.PlainSteps.{storing_follows, global_follows}
use Rattle.refinement.proofs.Verdicts.{Passed, first_false, is_global}
use Rattle.refinement.proofs.Naming.{on_named, on_field}

pub less_is : (m n : ℕ) → m < n → nat_lt m n ≡ true
less_is m n h = grind (arith, nat_tests)

module _ {h : HeapState} {p p0 : PlainHeap} (s : IsStore h.store) (d : IsHeap h) (k : Holds h p p0) (t : ℕ) where
  -- a reference is stored in an object
  pub store_holds : (r i q : ℕ) → Passed h t (steps.Store r i q)
      → RowHolds h p p0 (Thread t) (steps.Store r i q) (store_outcome h t r i q)
  unfolding store_outcome plain_step plain_answer
  store_holds r i q g = on_named k t r _ _ (λ a names. on_field names i _ _ _ (λ n low spot.
      on_bind (usable_or_null h t q) _ _ (λ u third.
      row_by k (field_carries h s k.laid a names.object names.uses.here i n (register_of h t q)
      (register_word h t q k.words) low spot) (storing_follows h p (name_of p t r) i (name_of p t q))
      (Store t r a names.object i q names.uses low) tt)))

  -- a reference is stored in a global
  pub store_global_holds : (n q : ℕ) → Passed h t (steps.StoreGlobal n q)
      → RowHolds h p p0 (Thread t) (steps.StoreGlobal n q) (store_global_outcome h t n q)
  unfolding store_global_outcome plain_step plain_answer
  store_global_holds n q g = on_bind (usable_or_null h t q) _ _ (λ u first.
      let low = is_global h n (first_false (no_global h n) (no_register h q) g.indices) in
      row_by k (global_carries h n (register_of h t q) (register_word h t q k.words) low)
      (global_follows k n (name_of p t q) low) (StoreGlobal t n q (less_is n (length h.globals) low)) tt)
