-- The places of the objects of a page that is protected: in at most two targets.
use Rattle.std.specs.Prelude.{◌≡◌, ◌⊎◌, ℕ, ◌+◌, ◌/◌, List, Some, Ok, slice_get}
use Rattle.model.specs.declared.records.Forwarding.{Forwarding}
use Rattle.model.specs.declared.steps.Actor.TheVariants.{Worker}
use Rattle.model.specs.declared.steps.Answer.{Answer}
use Rattle.model.specs.declared.steps.Step.TheVariants as steps
use Rattle.model.specs.Bits.{of_page}
use Rattle.model.specs.Holding.{IsHeap}
use Rattle.model.specs.Outcome.{outcome}
use Rattle.model.specs.Owning.{Each, IsStore}
use Rattle.model.specs.Plain.{PlainHeap}
use Rattle.model.specs.Plans.{plan_of, target_count}
use Rattle.model.specs.Protections.{with_targets}
use Rattle.model.specs.States.{HeapState}
use Rattle.refinement.specs.Standing.{Holds}

-- the pages of the targets that are opened when pages are protected, in the order in which they are opened
abbrev pub targets_of : HeapState → List ℕ → List ℕ
targets_of h pages = (with_targets (target_count (plan_of h pages)) h).1

-- the entries of a forwarding table go to at most two of these pages: one and the next
pub record LiesInTwo (words : ℕ) (targets : List ℕ) (side : List Forwarding) : Type 0 where
  pub first : ℕ
  pub each : (i : ℕ) (f : Forwarding) → slice_get side i ≡ Some f
      → (slice_get targets first ≡ Some (f.to / words)) ⊎ (slice_get targets (first + 1) ≡ Some (f.to / words))

-- when pages are protected, the entries of each go to at most two of the targets: one and the next
abbrev pub PagesLieInTwo : Type 0
PagesLieInTwo =
    (h : HeapState) (p p0 : PlainHeap) (w : ℕ) (pages : List ℕ) (g : HeapState) (answer : Answer)
    → IsStore h.store → IsHeap h → Holds h p p0 → outcome h (Worker w) (steps.Protect pages) ≡ Ok (g, answer)
    → Each pages (λ n. LiesInTwo h.store.words (targets_of h pages) (of_page g.sides n))
