-- What follows from an accepted protection's tests: the phase, the pages, and that there is space.
use Rattle.std.proofs.Common.{◌≡◌, inl, inr, ℕ, ◌≤◌, Bool, true, false}
use Rattle.std.proofs.Common.{cond, not, nat_lt, List, [], ◌∷◌, refl, sym, ◌∙◌}
use Rattle.std.proofs.Common.{◌&&◌, ap}
use Rattle.std.specs.Prelude.{Ok, Err}
use Rattle.std.proofs.lemmas.Bool.{ltb-false}
use Rattle.model.specs.declared.records.PageState.{PageState}
use Rattle.model.specs.declared.records.PageState.TheVariants.{Unused, Open, Closed, From, Gone}
use Rattle.model.specs.declared.records.Phase.{Phase}
use Rattle.model.specs.declared.records.Phase.TheVariants.{Idle, MarkCrossing, Scanning, ProtectCrossing, Relocating}
use Rattle.model.specs.declared.steps.Refusal.TheVariants as refusals
use Rattle.model.specs.Phases.{is_idle}
use Rattle.model.specs.Refusing.{refuse_if}
use Rattle.model.specs.Cycles.{is_lent}
use Rattle.model.specs.Stores.{state_at, is_open}
use Rattle.model.specs.States.{HeapState}
use Rattle.model.specs.Protections.{is_closed, ripe}
use Rattle.model.specs.Protections.{all_ripe}
use Rattle.model.specs.Protections.{free_count, unused_count, room_for}
use Rattle.model.proofs.Plans.{IsIn}
use Rattle.refinement.proofs.Accepted.{OnAccepted, on_has, on_test, on_accepted}

-- all of these pages are closed
ripe_closed : (h : HeapState) (n : ℕ) → OnAccepted (λ (u : Unit {0}). state_at h.store n ≡ Closed) (ripe h n)
unfolding ripe
ripe_closed h n = by_lent (is_open (state_at h.store n) && is_lent h.threads n)
  where
    is : (x : PageState) → OnAccepted (λ (u : Unit {0}). x ≡ Closed)
        (cond (is_closed x) (Ok tt) (Err (refusals.Unripe n)))
    is Unused = tt
    is Open = tt
    is Closed = refl
    is From = tt
    is Gone = tt

    by_lent : (b : Bool) → OnAccepted (λ (u : Unit {0}). state_at h.store n ≡ Closed)
        (cond b (Err (refusals.Lent n)) (cond (is_closed (state_at h.store n)) (Ok tt) (Err (refusals.Unripe n))))
    by_lent true = tt
    by_lent false = is (state_at h.store n)

pub all_closed : (h : HeapState) (pages : List ℕ)
    → OnAccepted (λ (u : Unit {0}). (n : ℕ) → IsIn n pages → state_at h.store n ≡ Closed) (all_ripe h pages)
all_closed h [] = λ n e. absurd e
all_closed h (k ∷ pages) = on_has (ripe h k) _ _ _ (ripe_closed h k) (λ u first.
    on_accepted (all_ripe h pages) _ _ (all_closed h pages) (λ v others.
    λ n e. elim e [ inl is ↦ ap (state_at h.store) (sym is) ∙ first | inr there ↦ others n there ]))

-- there is space for `need` targets
pub record HasRoomFor (h : HeapState) (need : ℕ) : Type 0 where
  pub frames : need ≤ free_count h.store
  pub pages : need ≤ unused_count h.store

pub has_room : (h : HeapState) (need : ℕ) → OnAccepted (λ (u : Unit {0}). HasRoomFor h need) (room_for h.store need)
unfolding room_for
has_room h need = on_test (nat_lt (free_count h.store) need) _ _ _ (λ e.
    on_test (nat_lt (unused_count h.store) need) _ _ _ (λ f.
    record { frames = ltb-false (free_count h.store) need e; pages = ltb-false (unused_count h.store) need f }))

pub idle_is : (f : Phase) → OnAccepted (λ (u : Unit {0}). f ≡ Idle) (refuse_if (not (is_idle f)) refusals.Phase)
idle_is Idle = refl
idle_is MarkCrossing = tt
idle_is Scanning = tt
idle_is ProtectCrossing = tt
idle_is Relocating = tt
