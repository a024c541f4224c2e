-- All objects of a page are copied: it has the effect of Copy of each of its entries in turn.
use Rattle.std.proofs.Common.{◌≡◌, ℕ, zero, suc, ◌+◌, ◌*◌, ◌/◌, ◌%◌, List, [], length, not, cond, nat_eq, refl, ◌∙◌}
use Rattle.std.specs.Prelude.{Ok, Err}
use Rattle.model.specs.declared.steps.Actor.TheVariants.{Worker}
use Rattle.model.specs.declared.steps.Step.TheVariants as steps
use Rattle.model.specs.declared.steps.Answer.{Answer}
use Rattle.model.specs.Bits.{of_page}
use Rattle.model.specs.Emptying.{crossed_if_protecting, entry_on, copy_outcome, heap_after, copies_from, copy_page}
use Rattle.model.specs.Emptying.{copy_page_outcome}
use Rattle.model.specs.Moves.{with_copy, with_copied_words, words_from}
use Rattle.model.specs.Owning.{IsStore}
use Rattle.model.specs.Phases.{is_idle}
use Rattle.model.specs.Plain.{PlainHeap, plain_step, plain_answer}
use Rattle.model.specs.Refusing.{Outcome}
use Rattle.model.specs.States.{HeapState}
use Rattle.model.specs.Plans.{object_words}
use Rattle.model.specs.Stores.{StoreState, state_at, is_from, words_at, overlay}
use Rattle.model.proofs.Memory.{length_overlaid}
use Rattle.page.proofs.Runs.{words_keep}
use Rattle.refinement.specs.Standing.{Holds}
use Rattle.refinement.proofs.Accepted.{OnAccepted, on_bind, on_some, on_unless}
use Rattle.refinement.proofs.Carrying.{RowHolds}
use Rattle.refinement.proofs.MovingPhases.{Stays, copy_stays}
use Rattle.refinement.proofs.Moving as moving

-- a heap after copies keeps what it had
record IsKept (h : HeapState) (p p0 : PlainHeap) (g : HeapState) : Type 0 where
  config : g.config ≡ h.config
  store : IsStore g.store
  holds : Holds g p p0

-- copying an object keeps the store's invariant
copied_keeps : (s : StoreState) (a to n : ℕ) → IsStore s → IsStore (with_copied_words s a to n)
unfolding with_copied_words
copied_keeps s a to n h = words_keep s (to / s.words)
    (λ ws. overlay ws (to % s.words) (words s a to n))
    (λ ws. length_overlaid ws (to % s.words) (words s a to n)) h
  where
    words : StoreState → ℕ → ℕ → ℕ → List ℕ
    words t b c m = cond (nat_eq (b / t.words) (c / t.words)) [] (words_from (b % t.words) m (words_at t (b / t.words)))

copied_store : (h : HeapState) (page e : ℕ) → IsStore h.store
    → OnAccepted (λ (z : HeapState × Answer). IsStore z.0.store) (copy_outcome h page e)
unfolding copy_outcome with_copy
copied_store h page e s = on_unless (is_idle h.phase) _ _ _ (λ u. on_bind (crossed_if_protecting h) _ _ (λ v f.
    on_some (entry_on h page e) _ _ _ (λ w g. on_unless w.copied _ _ _ (λ x.
    copied_keeps h.store (page * h.store.words + w.offset) w.to
    (object_words h (page * h.store.words + w.offset)) s))))

after : (h : HeapState) (p p0 : PlainHeap) (w page e : ℕ) → IsStore h.store → Holds h p p0
    → IsKept h p p0 (heap_after h (copy_outcome h page e))
unfolding plain_step
after h p p0 w page e s k =
    by_outcome (copy_outcome h page e) (moving.copy_holds s k w page e) (copied_store h page e s)
  where
    by_outcome : (o : Outcome) → RowHolds h p p0 (Worker w) (steps.Copy page e) o
        → OnAccepted (λ (z : HeapState × Answer). IsStore z.0.store) o → IsKept h p p0 (heap_after h o)
    by_outcome (Ok z) a b = record { config = a.config; store = b; holds = a.holds }
    by_outcome (Err n) a b = record { config = refl; store = s; holds = k }

copies_keep : (h : HeapState) (p p0 : PlainHeap) (w page e k : ℕ) → IsStore h.store → Holds h p p0
    → IsKept h p p0 (copies_from h page e k)
copies_keep h p p0 w page e zero s l = record { config = refl; store = s; holds = l }
copies_keep h p p0 w page e (suc k) s l =
    let one = after h p p0 w page e s l in
    let rest = copies_keep (heap_after h (copy_outcome h page e)) p p0 w page (e + 1) k one.store one.holds in
    record { config = rest.config ∙ one.config; store = rest.store; holds = rest.holds }

pub copy_page_holds : (h : HeapState) (p p0 : PlainHeap) (w page : ℕ) → IsStore h.store → Holds h p p0
    → RowHolds h p p0 (Worker w) (steps.CopyPage page) (copy_page_outcome h page)
unfolding copy_page_outcome copy_page plain_step plain_answer
copy_page_holds h p p0 w page s k = on_unless (is_idle h.phase) _ _ _
    (λ u. on_bind (crossed_if_protecting h) _ _ (λ v f.
    on_unless (not (is_from (state_at h.store page))) _ _ _ (λ x.
    let all = copies_keep h p p0 w page 0 (length (of_page h.sides page)) s k in
    record { config = all.config; holds = all.holds; answers = tt })))

-- the phase stays
after_stays : (h : HeapState) (page e : ℕ) → (heap_after h (copy_outcome h page e)).phase ≡ h.phase
after_stays h page e = by_outcome (copy_outcome h page e) (copy_stays h page e)
  where
    by_outcome : (o : Outcome) → Stays h o → (heap_after h o).phase ≡ h.phase
    by_outcome (Ok z) a = a
    by_outcome (Err n) a = refl

copies_stay : (h : HeapState) (page e k : ℕ) → (copies_from h page e k).phase ≡ h.phase
copies_stay h page e zero = refl
copies_stay h page e (suc k) =
    copies_stay (heap_after h (copy_outcome h page e)) page (e + 1) k ∙ after_stays h page e

pub copy_page_stays : (h : HeapState) (page : ℕ) → Stays h (copy_page_outcome h page)
unfolding copy_page_outcome copy_page
copy_page_stays h page = on_unless (is_idle h.phase) _ _ _ (λ u. on_bind (crossed_if_protecting h) _ _ (λ v f.
    on_unless (not (is_from (state_at h.store page))) _ _ _ (λ x.
    copies_stay h page 0 (length (of_page h.sides page)))))
