-- Phases after the steps of relocation: a protection opens its checkpoint, and all others leave the phase.
use Rattle.std.proofs.Common.{◌≡◌, ℕ, Bool, true, false, not, cond, List, Option, Some, None, refl}
use Rattle.std.specs.List.{list_any}
use Rattle.std.specs.Prelude.{Ok, Err}
use Rattle.model.specs.declared.records.Barrier.{Barrier}
use Rattle.model.specs.declared.records.Forwarding.{Forwarding}
use Rattle.model.specs.declared.steps.Step.TheVariants as steps
use Rattle.model.specs.declared.steps.Answer.TheVariants as answers
use Rattle.model.specs.declared.steps.Refusal.TheVariants as refusals
use Rattle.model.specs.Phases.{is_idle, is_protect_crossing}
use Rattle.model.specs.Stores.{state_at, is_from}
use Rattle.model.specs.Refusing.{refuse_if}
use Rattle.model.specs.States.{HeapState, Reference}
use Rattle.model.specs.Bits.{of_page}
use Rattle.model.specs.Registers.{let_through, with_register}
use Rattle.model.specs.Loads.{with_barrier, is_refused}
use Rattle.model.specs.Marks.{entry_at}
use Rattle.model.specs.Cycles.{is_uncopied}
use Rattle.model.specs.Plans.{plan_of, target_count}
use Rattle.model.specs.Protections.{with_protected, protect}
use Rattle.model.specs.Protections.{all_ripe, room_for, protect_outcome}
use Rattle.model.specs.Moves.{with_copy, copied_by, copied_first, copied_for, moved_word}
use Rattle.model.specs.Emptying.{crossed_if_protecting, entry_on, copy_outcome, release_outcome}
use Rattle.model.specs.Traps.{gc_trap, scrub_word}
use Rattle.model.specs.Refusing.{Outcome}
use Rattle.refinement.specs.Standing.{MovesPhase}
use Rattle.model.specs.declared.steps.Step.{Step}
use Rattle.model.specs.declared.steps.Answer.{Answer}
use Rattle.refinement.proofs.Accepted.{OnAccepted, on_bind, on_has, on_some, on_test, on_unless}
use Rattle.refinement.proofs.ProtectionTests.{idle_is}

-- an accepted step leaves the phase
abbrev pub Stays : HeapState → Outcome → Type 0
Stays h o = OnAccepted (λ (z : HeapState × Answer). z.0.phase ≡ h.phase) o

-- an accepted step changes the phase so
abbrev pub Moves : HeapState → Step → Outcome → Type 0
Moves h step o = OnAccepted (λ (z : HeapState × Answer). MovesPhase h step z.0) o

-- pages are protected
pub protect_moves : (h : HeapState) (pages : List ℕ) → Moves h (steps.Protect pages) (protect_outcome h pages)
unfolding protect_outcome protect with_protected
protect_moves h pages = on_has (refuse_if (not (is_idle h.phase)) refusals.Phase) _ _ _ (idle_is h.phase) (λ u idle.
    on_bind (all_ripe h pages) _ _ (λ v e. on_bind (room_for h.store (target_count (plan_of h pages))) _ _ (λ w f.
    (idle, refl))))

-- an object is copied if it isn't copied yet
first_stays : (h : HeapState) (a : ℕ) → (copied_first h a).phase ≡ h.phase
unfolding copied_first with_copy
first_stays h a = by_entry (entry_at h a)
  where
    by_entry : (o : Option Forwarding) → (copied_by h a o).phase ≡ h.phase
    by_entry None = refl
    by_entry (Some f) = by_copied f.copied f.to
      where
        by_copied : (b : Bool) (n : ℕ) → (cond b h (with_copy h a n)).phase ≡ h.phase
        by_copied true n = refl
        by_copied false n = refl

-- so is the object of a reference
pub copied_for_stays : (h : HeapState) (v : Reference) → (copied_for h v).phase ≡ h.phase
unfolding copied_for
copied_for_stays h None = refl
copied_for_stays h (Some w) = first_stays h w.0

pub copy_stays : (h : HeapState) (page e : ℕ) → Stays h (copy_outcome h page e)
unfolding copy_outcome with_copy
copy_stays h page e = on_unless (is_idle h.phase) _ _ _ (λ u. on_bind (crossed_if_protecting h) _ _ (λ v f.
    on_some (entry_on h page e) _ _ _ (λ w g. on_unless w.copied _ _ _ (λ x. refl))))

-- a GC trap
pub gc_stays : (h : HeapState) (t : ℕ) (b : Barrier) (v : Reference) → Stays h (gc_trap h t b v)
unfolding with_barrier
gc_stays h t b None = refl
gc_stays h t b (Some w) = on_test (is_protect_crossing h.phase) _ _ _ (λ e. first_stays h w.0)

-- a register is corrected
pub scrub_word_stays : (h : HeapState) (t r : ℕ) (w : ℕ × Bool) → Stays h (scrub_word h t r w)
unfolding with_register
scrub_word_stays h t r w = by_refused (not (is_refused (let_through h t w.0)))
  where
    after : HeapState
    after = with_register (copied_first h w.0) t r (Some (moved_word h w))

    by_refused : (b : Bool) → Stays h (cond b (Ok (h, answers.Clean))
        (cond (is_protect_crossing h.phase) (Err refusals.Stall) (Ok (after, answers.Moved))))
    by_refused true = refl
    by_refused false = on_test (is_protect_crossing h.phase) _ _ _ (λ e. first_stays h w.0)

-- a page is released
pub release_stays : (h : HeapState) (n : ℕ) → Stays h (release_outcome h n)
unfolding release_outcome
release_stays h n = on_unless (is_idle h.phase) _ _ _ (λ e. on_bind (crossed_if_protecting h) _ _ (λ u f.
    on_unless (not (is_from (state_at h.store n))) _ _ _ (λ g.
    on_unless (list_any is_uncopied (of_page h.sides n)) _ _ _ (λ k. refl))))
