-- Collections, from one step to the next.
use Rattle.std.proofs.Common.{◌≡◌, ◌∙◌, ℕ, List, [], ◌∷◌, refl, sym, subst}
use Rattle.std.specs.Prelude.{Result, Ok, Err}
use Rattle.layout.specs.declared.shape.Layout.{Layout}
use Rattle.model.specs.declared.steps.Actor.{Actor}
use Rattle.model.specs.declared.steps.Actor.TheVariants.{Thread, Worker}
use Rattle.model.specs.declared.steps.Step.{Step}
use Rattle.model.specs.declared.steps.Step.TheVariants as steps
use Rattle.model.specs.declared.steps.Answer.{Answer}
use Rattle.model.specs.declared.steps.Refusal.{Refusal}
use Rattle.model.specs.Checkpoints.{all_crossed}
use Rattle.model.specs.Refusing.{DoesStep}
use Rattle.model.specs.Outcome.{outcome}
use Rattle.model.specs.Plain.{PlainHeap, plain_step}
use Rattle.model.specs.States.{HeapState}
use Rattle.refinement.specs.Standing.{Holds, FindsLive, KeepsStanding}
use Rattle.entries.specs.declared.entry.Entry.{Entry}
use Rattle.cycle.specs.Replays.{Replayed, after_entry, after_entries}
use Rattle.managed.specs.Goings.{EachIs, Goes, IsScan, IsDrain, IsCrossing, IsScrub, AllTried}
use Rattle.managed.specs.Sequences.{EndsStep}
use Rattle.managed.specs.Collecting.{IsCollecting, StandsUnseen, EndsCrossing, EndsDraining, EndsHere, EndsScanned}
use Rattle.managed.specs.Collecting.{EndsRest, EndsMark, live_told}
use Rattle.managed.proofs.Going.{goes_none, goes_step}
use Rattle.managed.proofs.Sequences.{step_ends, step_goes, then_goes}

each_wider : (P Q : Actor → Step → Type 0) → ((actor : Actor) (step : Step) → P actor step → Q actor step)
    → (es : List Entry) → EachIs P es → EachIs Q es
each_wider P Q f [] k = tt
each_wider P Q f (e ∷ es) k = (f e.actor e.step k.0, each_wider P Q f es k.1)

-- what goes by such steps goes by a wider kind
pub goes_wider : (P Q : Actor → Step → Type 0) → ((actor : Actor) (step : Step) → P actor step → Q actor step)
    → (h g : HeapState) → Goes P h g → Goes Q h g
goes_wider P Q f h g k = record { entries = k.entries; each = each_wider P Q f k.entries k.each; runs = k.runs }

scan_collects : (w : ℕ) (actor : Actor) (step : Step) → IsScan w actor step → IsCollecting w actor step
scan_collects w (Thread t) step is = absurd is
scan_collects w (Worker v) step is = is.0

scan_drains : (w : ℕ) (actor : Actor) (step : Step) → IsScan w actor step → IsDrain w actor step
scan_drains w (Thread t) step is = absurd is
scan_drains w (Worker v) (steps.Pick page offset) is = is
scan_drains w (Worker v) steps.ScanField is = is
scan_drains w (Worker v) (steps.ScanGlobal n) is = is
scan_drains w (Worker v) _ is = absurd is.1

drain_collects : (w : ℕ) (actor : Actor) (step : Step) → IsDrain w actor step → IsCollecting w actor step
drain_collects w (Thread t) step is = absurd is
drain_collects w (Worker v) step is = is.0

crossing_collects : (w : ℕ) (actor : Actor) (step : Step) → IsCrossing w actor step → IsCollecting w actor step
crossing_collects w (Thread t) steps.Cross is = tt
crossing_collects w (Thread t) _ is = absurd is
crossing_collects w (Worker v) (steps.CrossFor t) is = is
crossing_collects w (Worker v) _ is = absurd is

pub scans_collect : (w : ℕ) (h g : HeapState) → Goes (IsScan w) h g → Goes (IsCollecting w) h g
scans_collect w h g k = goes_wider (IsScan w) (IsCollecting w) (scan_collects w) h g k

pub scans_drain : (w : ℕ) (h g : HeapState) → Goes (IsScan w) h g → Goes (IsDrain w) h g
scans_drain w h g k = goes_wider (IsScan w) (IsDrain w) (scan_drains w) h g k

pub drains_collect : (w : ℕ) (h g : HeapState) → Goes (IsDrain w) h g → Goes (IsCollecting w) h g
drains_collect w h g k = goes_wider (IsDrain w) (IsCollecting w) (drain_collects w) h g k

pub crossings_collect : (w : ℕ) (h g : HeapState) → Goes (IsCrossing w) h g → Goes (IsCollecting w) h g
crossings_collect w h g k = goes_wider (IsCrossing w) (IsCollecting w) (crossing_collects w) h g k

scrub_collects : (w : ℕ) (actor : Actor) (step : Step) → IsScrub actor step → IsCollecting w actor step
scrub_collects w (Thread t) (steps.Scrub r) is = tt
scrub_collects w (Thread t) _ is = absurd is
scrub_collects w (Worker v) step is = absurd is

pub scrubs_collect : (w : ℕ) (h g : HeapState) → Goes IsScrub h g → Goes (IsCollecting w) h g
scrubs_collect w h g k = goes_wider IsScrub (IsCollecting w) (scrub_collects w) h g k

-- a step of the worker
pub collect_step : (w : ℕ) (h g : HeapState) (step : Step) (result : Result Answer Refusal)
    → DoesStep h step result g (outcome h (Worker w) step) → KeepsStanding h (Worker w) step result g
    → Goes (IsCollecting w) h g
collect_step w h g step result does keeps =
    goes_step (IsCollecting w) h h g (Worker w) step result refl does keeps (goes_none (IsCollecting w) h)

-- the plain heap sees no such step
unseen : (w : ℕ) (ls : List Layout) (p : PlainHeap) (actor : Actor) (step : Step) → IsCollecting w actor step
    → plain_step ls p actor step ≡ p
unfolding plain_step
unseen w ls p (Worker v) step is = refl
unseen w ls p (Thread t) steps.Cross is = refl
unseen w ls p (Thread t) (steps.Scrub r) is = refl
unseen w ls p (Thread t) _ is = absurd is

unseen_entries : (w : ℕ) (ls : List Layout) (r : Replayed) (es : List Entry) → EachIs (IsCollecting w) es
    → (after_entries ls r es).now ≡ r.now
unseen_entries w ls r [] each = refl
unseen_entries w ls r (e ∷ es) each =
    unseen_entries w ls (after_entry ls r e) es each.1 ∙ unseen w ls r.now e.actor e.step each.0

pub collected : (w : ℕ) (h g : HeapState) → Goes (IsCollecting w) h g → StandsUnseen h g
collected w h g k = record {
  same = λ p p0 holds.
      let r : Replayed = record { now = p; at_mark = p0 } in
      let after = after_entries h.config.layouts r k.entries in (
        after.at_mark,
        subst (λ (q : PlainHeap). Holds g q after.at_mark)
            (unseen_entries w h.config.layouts r k.entries k.each) (k.runs.stands r holds).holds,
      );
}

-- a mark's last step
pub end_here : (w : ℕ) (h g : HeapState) (reply : Result Answer Refusal) (result : Result ℕ Refusal)
    → result ≡ live_told reply → DoesStep h steps.EndMark reply g (outcome h (Worker w) steps.EndMark)
    → KeepsStanding h (Worker w) steps.EndMark reply g → EndsHere w h result g
unfolding plain_step
end_here w h g (Ok a) result told does keeps = subst (λ (r : Result ℕ Refusal). EndsHere w h r g) (sym told) (record {
  answer = a;
  last = step_ends (Worker w) steps.EndMark h g (Ok a) does keeps;
  told = refl;
  finds = λ p p0 k. (p0, (keeps p p0 k).stands.holds, (keeps p p0 k).finds);
})
end_here w h g (Err e) result told does keeps = subst (λ (r : Result ℕ Refusal). EndsHere w h r g) (sym told) does

-- how all threads crossed, by what `cross_all` ensures
pub crossing_ends : (w : ℕ) (h g : HeapState) (c : Result Unit Refusal) → c ≡ all_crossed g → Goes (IsCrossing w) h g
    → AllTried w c g → EndsCrossing w h c g
crossing_ends w h g (Ok u) all a behind = (a, sym all)
crossing_ends w h g (Err e) all a behind = (a, sym all, behind)

-- ---- the steps of each part are a collection's

pub crossing_goes : (w : ℕ) (h g : HeapState) (c : Result Unit Refusal) → EndsCrossing w h c g
    → Goes (IsCollecting w) h g
crossing_goes w h g (Ok u) k = crossings_collect w h g k.0
crossing_goes w h g (Err e) k = crossings_collect w h g k.0

here_goes : (w : ℕ) (h g : HeapState) (r : Result ℕ Refusal) → EndsHere w h r g → Goes (IsCollecting w) h g
here_goes w h g (Ok live) k = step_goes (IsCollecting w) (Worker w) steps.EndMark refl h g (Ok k.answer) k.last
here_goes w h g (Err e) k = subst (Goes (IsCollecting w) h) (sym k.1) (goes_none (IsCollecting w) h)

scanned_goes : (w : ℕ) (h g : HeapState) (r : Result ℕ Refusal) → EndsScanned w h r g → Goes (IsCollecting w) h g
scanned_goes w h g r k = then_goes (EndsDraining w) (λ (u : Unit {0}). EndsHere w) (IsCollecting w)
    (λ h m d a. drains_collect w h m a.0) (λ u. here_goes w) h g r k

pub rest_goes : (w : ℕ) (h g : HeapState) (r : Result ℕ Refusal) → EndsRest w h r g → Goes (IsCollecting w) h g
rest_goes w h g r k = then_goes (EndsCrossing w) (λ (u : Unit {0}). EndsScanned w) (IsCollecting w)
    (crossing_goes w) (λ u. scanned_goes w) h g r k

pub mark_goes : (w : ℕ) (h g : HeapState) (r : Result ℕ Refusal) → EndsMark w h r g → Goes (IsCollecting w) h g
mark_goes w h g r k = then_goes (EndsStep (Worker w) steps.StartMark) (λ (a : Answer). EndsRest w) (IsCollecting w)
    (step_goes (IsCollecting w) (Worker w) steps.StartMark refl) (λ a. rest_goes w) h g r k

-- the rest of a mark finds all live objects of each reference model that the heap represents before it
pub rest_finds : (w : ℕ) (h g : HeapState) (live : ℕ) → EndsRest w h (Ok live) g → (p p0 : PlainHeap) → Holds h p p0
    → (q0 : PlainHeap) × Holds g p q0 × FindsLive g p q0
rest_finds w h g live k p p0 holds =
    let m = k.0 in
    let n = k.3.0 in
    let crossed = (collected w h m (crossing_goes w h m (Ok k.1) k.2)).same p p0 holds in
    let drained = (collected w m n (drains_collect w m n k.3.2.0)).same p crossed.0 crossed.1 in
    k.3.3.finds p drained.0 drained.1
