-- A portion stays a portion of its thread.
use Rattle.std.proofs.Common.{◌≡◌, ◌∙◌, ℕ, false, List, [], ◌∷◌, refl, sym, subst}
use Rattle.std.specs.Prelude.{Result, Ok, Err}
use Rattle.std.specs.List.{slice_get}
use Rattle.model.specs.declared.records.Phase.{Phase}
use Rattle.model.specs.declared.records.Phase.TheVariants.{Idle, MarkCrossing, Scanning, ProtectCrossing, Relocating}
use Rattle.model.specs.declared.steps.Actor.{Actor}
use Rattle.model.specs.declared.steps.Actor.TheVariants.{Thread, Worker}
use Rattle.model.specs.declared.steps.Answer.{Answer}
use Rattle.model.specs.declared.steps.Refusal.{Refusal}
use Rattle.model.specs.declared.steps.Step.{Step}
use Rattle.model.specs.declared.steps.Step.TheVariants as steps
use Rattle.model.specs.Outcome.{outcome}
use Rattle.model.specs.Phases.{is_crossing, is_protect_crossing}
use Rattle.model.specs.States.{HeapState}
use Rattle.model.specs.Threads.{is_parked_in}
use Rattle.entries.specs.declared.entry.Entry.{Entry}
use Rattle.cycle.specs.Mutating.{DoesThread}
use Rattle.cycle.proofs.Stepped.{step_accepted, step_refused}
use Rattle.managed.specs.Goings.{EachIs, Goes, IsScrub}
use Rattle.managed.specs.Runs.{Leads}
use Rattle.managed.specs.Scrubbing.{AreScrubbed}
use Rattle.managed.proofs.Scrubbed.{scrubs_phase}
use Rattle.portions.specs.Apart.{IsApart}
use Rattle.portions.specs.Portions.{MayUseAll}
use Rattle.portions.proofs.Parking.{apart_stays}
use Rattle.portions.proofs.Rows.{disturbs, step_keeps, step_stays, turns}
use Rattle.portions.proofs.Staying.{AllStay, all_same, all_then}

-- ---- all threads stay

entries_stay : (P : Actor → Step → Type 0) → ((a : Actor) (s : Step) → P a s → disturbs a s ≡ false) → (h g : HeapState)
    (es : List Entry) → EachIs P es → Leads h es g → AllStay h g
entries_stay P f h g [] each leads = subst (AllStay h) (sym leads) (all_same h)
entries_stay P f h g (e ∷ es) each leads = all_then h leads.0 g
    (step_stays h e.actor e.step leads.0 e.answer (f e.actor e.step each.0) leads.1)
    (entries_stay P f leads.0 g es each.1 leads.2)

pub goes_stay : (P : Actor → Step → Type 0) → ((a : Actor) (s : Step) → P a s → disturbs a s ≡ false)
    → (h g : HeapState)
    → Goes P h g → AllStay h g
goes_stay P f h g k = entries_stay P f h g k.entries k.each k.runs.steps

scrub_stays : (a : Actor) (s : Step) → IsScrub a s → disturbs a s ≡ false
scrub_stays (Thread t) (steps.Scrub r) k = refl
scrub_stays (Thread t) _ k = absurd k
scrub_stays (Worker w) s k = absurd k

-- ---- registers are corrected

-- if a thread runs alone, it does after registers were corrected, and may use all that they name
pub scrubs_apart : (h g : HeapState) (t : ℕ) → Goes IsScrub h g → IsApart h t → IsApart g t
scrubs_apart h g t k a = apart_stays h g t (goes_stay IsScrub scrub_stays h g k) (scrubs_phase h g k) a

pub scrubs_use : (h g : HeapState) (t : ℕ) → Goes IsScrub h g → IsApart h t
    → is_parked_in (slice_get h.threads t) ≡ false → AreScrubbed g → MayUseAll g t
scrubs_use h g t k a runs s = record {
  runs = ((goes_stay IsScrub scrub_stays h g k).each t).parked ∙ runs;
  registers = λ r. s t r (((goes_stay IsScrub scrub_stays h g k).each t).parked ∙ runs)
      ((scrubs_apart h g t k a).runs.closed t);
}

-- ---- one step

-- a step of a thread that leaves the threads and the phase as they are
pub does_apart : {A : Type 0} (answer : A → Answer) (h g : HeapState) (t : ℕ) (step : Step) (r : Result A Refusal)
    → turns step ≡ false → DoesThread answer h t step r g → IsApart h t → IsApart g t
does_apart answer h g t step (Ok a) e does k =
    let z = step_keeps h t step g (answer a) e (step_accepted h g step (answer a) (outcome h (Thread t) step) does) in
    apart_stays h g t z.stay z.phase k
does_apart answer h g t step (Err n) e does k =
    subst (λ (x : HeapState). IsApart x t) (sym (step_refused h g step n (outcome h (Thread t) step) does).1) k

-- if no checkpoint is open, none of protected pages is
pub not_protecting : (f : Phase) → is_crossing f ≡ false → is_protect_crossing f ≡ false
not_protecting ProtectCrossing e = e
not_protecting MarkCrossing e = refl
not_protecting Idle e = refl
not_protecting Scanning e = refl
not_protecting Relocating e = refl
