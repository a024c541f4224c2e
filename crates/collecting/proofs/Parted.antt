-- Parts of a collection, from one portion to the next.
use Rattle.std.proofs.Common.{◌≡◌, ◌∙◌, ℕ, Bool, true, false, List, None, refl, sym, subst, ap, inl, inr}
use Rattle.std.specs.Prelude.{Result, Ok, Err}
use Rattle.model.specs.declared.records.Phase.TheVariants as phases
use Rattle.model.specs.declared.steps.Actor.TheVariants.{Worker}
use Rattle.model.specs.declared.steps.Step.TheVariants as steps
use Rattle.model.specs.declared.steps.Answer.{Answer}
use Rattle.model.specs.declared.steps.Refusal.{Refusal}
use Rattle.model.specs.Outcome.{outcome}
use Rattle.model.specs.Phases.{may_start_mark, is_protect_crossing}
use Rattle.model.specs.Refusing.{DoesStep}
use Rattle.model.specs.Scans.{next_drain}
use Rattle.model.specs.States.{HeapState}
use Rattle.refinement.specs.Standing.{KeepsStanding}
use Rattle.managed.specs.Goings.{Goes, IsScan, IsScrub, EndsScan, ScansObjects}
use Rattle.managed.specs.Preparing.{Prepares}
use Rattle.managed.specs.Scrubbing.{AreScrubbed}
use Rattle.managed.proofs.Counting.{prepares_goes}
use Rattle.managed.proofs.Gathering.{collect_step, drains_collect, scans_collect, scrubs_collect}
use Rattle.managed.proofs.Scrubbed.{scrubs_phase}
use Rattle.collecting.specs.Collections.{WORKER, Collects}
use Rattle.collecting.specs.Parts.{HasEnded, StopsAt, Stops, EndsPortion, EndsPart, EndsStage}
use Rattle.collecting.specs.Parts.{EndsProtecting, EndsScanning}
use Rattle.collecting.specs.Parts.{Beginning, Scanning, Ending}
use Rattle.collecting.specs.Stages.{EndsMarking}
use Rattle.collecting.proofs.Collections.{none, and_then}
use Rattle.collecting.proofs.Staying.{scans_phase}

-- ---- portions

-- at once
stops_here : (h g : HeapState) (e : Refusal) → Collects h g → StopsAt h e g → Stops h e g
stops_here h g e a k = (a, (h, none h, k))

pub portion_then : {A : Type 0} (h m g : HeapState) (r : Result A Refusal) → Collects h m → EndsPortion m r g
    → EndsPortion h r g
portion_then h m g (Ok x) a k = and_then h m g a k
portion_then h m g (Err e) a k = (and_then h m g a k.0, (k.1.0, and_then h m k.1.0 a k.1.1, k.1.2))

pub portion_goes : {A : Type 0} (h g : HeapState) (r : Result A Refusal) → EndsPortion h r g → Collects h g
portion_goes h g (Ok x) k = k
portion_goes h g (Err e) k = k.0

-- the same error of another call
pub portion_stops : {A : Type 0} (h g : HeapState) (r : Result A Refusal) (e : Refusal) → r ≡ Err e
    → EndsPortion h r g → Stops h e g
portion_stops {A} h g r e is k = subst (λ (x : Result A Refusal). EndsPortion h x g) is k

-- ---- a mark

pub begun : {A : Type 0} (h m g : HeapState) (s : Result Answer Refusal) (r : Result A Refusal)
    → DoesStep h steps.StartMark s m (outcome h (Worker WORKER) steps.StartMark)
    → KeepsStanding h (Worker WORKER) steps.StartMark s m → EndsPortion m r g → EndsPortion h r g
begun h m g s r does keeps k =
    portion_then h m g r (collect_step WORKER h m steps.StartMark s does keeps) k

pub begun_stops : (h g : HeapState) (s : Result Answer Refusal) (e : Refusal)
    → may_start_mark h.phase ≡ true → s ≡ Err e
    → DoesStep h steps.StartMark s g (outcome h (Worker WORKER) steps.StartMark) → Stops h e g
begun_stops h g s e may is does =
    let d : DoesStep h steps.StartMark (Err e) g (outcome h (Worker WORKER) steps.StartMark) =
    subst (λ (r : Result Answer Refusal). DoesStep h steps.StartMark r g (outcome h (Worker WORKER) steps.StartMark)) is
    does in
    subst (λ (x : HeapState). Stops h e x) (sym d.1)
    (stops_here h h e (none h) (Beginning may d.0 refl))

pub ended_on : (h g : HeapState) (s : Result Answer Refusal) (a : Answer) → s ≡ Ok a
    → DoesStep h steps.EndMark s g (outcome h (Worker WORKER) steps.EndMark)
    → KeepsStanding h (Worker WORKER) steps.EndMark s g → EndsMarking h (Ok true) g
ended_on h g (Ok x) a is does keeps =
    (collect_step WORKER h g steps.EndMark (Ok x) does keeps, (h, x, none h, does))
ended_on h g (Err e) a is does keeps = absurd (cc)

pub ended_stops : (h g : HeapState) (s : Result Answer Refusal) (e : Refusal)
    → h.phase ≡ phases.Scanning → next_drain h WORKER ≡ None → s ≡ Err e
    → DoesStep h steps.EndMark s g (outcome h (Worker WORKER) steps.EndMark) → Stops h e g
ended_stops h g s e phase nothing is does =
    let d : DoesStep h steps.EndMark (Err e) g (outcome h (Worker WORKER) steps.EndMark) =
    subst (λ (r : Result Answer Refusal). DoesStep h steps.EndMark r g (outcome h (Worker WORKER) steps.EndMark)) is
    does in
    subst (λ (x : HeapState). Stops h e x) (sym d.1)
    (stops_here h h e (none h) (Ending phase nothing d.0 refl))

pub scanned_ready : (h g : HeapState) (n : ℕ) → ScansObjects WORKER n h g → Collects h g
scanned_ready h g n a = scans_collect WORKER h g a.goes

-- objects, until nothing is left
pub scanned_out : (h g : HeapState) (n : ℕ) → ScansObjects WORKER n h g → next_drain g WORKER ≡ None
    → EndsScanning h (Ok true) g
scanned_out h g n a k = (scans_collect WORKER h g a.goes, k, scans_phase WORKER h g a.goes)

pub scanned : (h g : HeapState) (r : Result Bool Refusal) → Goes (IsScan WORKER) h g → EndsScan WORKER r g
    → EndsScanning h r g
scanned h g (Ok true) a k = (scans_collect WORKER h g a, k, scans_phase WORKER h g a)
scanned h g (Ok false) a k = scans_collect WORKER h g a
scanned h g (Err e) a k = (a, k)

-- a part of the preparation of scans of complete objects
pub scanned_before : (h g : HeapState) (b : Bool) → b ≡ true → Prepares WORKER h b g → Collects h g
scanned_before h g b is k = drains_collect WORKER h g (prepares_goes WORKER h g b k)

-- nothing of it was left
pub scanned_behind : (h m g : HeapState) (b : Bool) (r : Result Bool Refusal) → b ≡ false → Prepares WORKER h b m
    → Goes (IsScan WORKER) m g → EndsScan WORKER r g → EndsScanning h r g
scanned_behind h m g b r is k a ends =
    subst (λ (x : HeapState). EndsScanning x r g) (subst (λ (c : Bool). Prepares WORKER h c m) is k).0
    (scanned m g r a ends)

marking_then : (h m g : HeapState) (r : Result Bool Refusal) → Collects h m → EndsMarking m r g → EndsMarking h r g
marking_then h m g (Ok true) a k =
    (and_then h m g a k.0, (k.1.0, k.1.1, and_then h m k.1.0 a k.1.2, k.1.3))
marking_then h m g (Ok false) a k = and_then h m g a k
marking_then h m g (Err e) a k = (and_then h m g a k.0, (k.1.0, and_then h m k.1.0 a k.1.1, k.1.2))

pub scanned_mark : (h m g : HeapState) (s r : Result Bool Refusal) → s ≡ Ok true → EndsScanning h s m
    → EndsMarking m r g → EndsMarking h r g
scanned_mark h m g s r is a k =
    marking_then h m g r (subst (λ (x : Result Bool Refusal). EndsScanning h x m) is a).0 k

pub scanned_none : (h g : HeapState) (s : Result Bool Refusal) → s ≡ Ok true → EndsScanning h s g
    → next_drain g WORKER ≡ None
scanned_none h g s is a = (subst (λ (x : Result Bool Refusal). EndsScanning h x g) is a).1

pub scanned_phase : (h g : HeapState) (s : Result Bool Refusal) → s ≡ Ok true → EndsScanning h s g
    → h.phase ≡ phases.Scanning → g.phase ≡ phases.Scanning
scanned_phase h g s is a phase = (subst (λ (x : Result Bool Refusal). EndsScanning h x g) is a).2 ∙ phase

pub scanned_some : (h g : HeapState) (s : Result Bool Refusal) → s ≡ Ok false → EndsScanning h s g → Collects h g
scanned_some h g s is a = subst (λ (x : Result Bool Refusal). EndsScanning h x g) is a

pub scanned_stops : (h g : HeapState) (s : Result Bool Refusal) (e : Refusal) → h.phase ≡ phases.Scanning → s ≡ Err e
    → EndsScanning h s g → Stops h e g
scanned_stops h g s e phase is a =
    let k : EndsScanning h (Err e) g = subst (λ (x : Result Bool Refusal). EndsScanning h x g) is a in
    stops_here h g e (scans_collect WORKER h g k.0) (Scanning phase k.0 k.1)

-- ---- pages

pub protected_stops : (h g : HeapState) (ns : List ℕ) (s : Result Answer Refusal) (e : Refusal) → s ≡ Err e
    → DoesStep h (steps.Protect ns) s g (outcome h (Worker WORKER) (steps.Protect ns))
    → KeepsStanding h (Worker WORKER) (steps.Protect ns) s g → EndsProtecting h ns (Err e) g
protected_stops h g ns s e is does keeps = (
  collect_step WORKER h g (steps.Protect ns) s does keeps,
  subst (λ (r : Result Answer Refusal). DoesStep h (steps.Protect ns) r g
      (outcome h (Worker WORKER) (steps.Protect ns))) is does,
)

-- ---- parts

pub part_goes : (h g : HeapState) (r : Result Bool Refusal) → EndsPart h r g → Collects h g
part_goes h g (Ok true) k = k.0
part_goes h g (Ok false) k = k
part_goes h g (Err e) (inl k) = k.0
part_goes h g (Err e) (inr k) = subst (Collects h) (sym k.1) (none h)

-- registers are corrected after it
pub part_scrubbed : (h m g : HeapState) (r : Result Bool Refusal) (last b : Bool) → r ≡ Ok last → EndsStage h r m
    → Goes IsScrub m g → (b ≡ true → HasEnded g) → EndsPart h (Ok b) g
part_scrubbed h m g r last b is k a ends = by_end b ends
  where
    goes : Collects h g
    goes = and_then h m g (subst (λ (x : Result Bool Refusal). EndsStage h x m) is k) (scrubs_collect WORKER m g a)

    by_end : (b : Bool) → (b ≡ true → HasEnded g) → EndsPart h (Ok b) g
    by_end true f = (goes, f refl)
    by_end false f = goes

pub part_stops : (h g : HeapState) (r : Result Bool Refusal) (e : Refusal) → r ≡ Err e → EndsStage h r g
    → EndsPart h (Err e) g
part_stops h g r e is k = subst (λ (x : Result Bool Refusal). EndsStage h x g) is k

pub still_calm : (m g : HeapState) → Goes IsScrub m g → (is_protect_crossing m.phase ≡ false → AreScrubbed g)
    → is_protect_crossing g.phase ≡ false → AreScrubbed g
still_calm m g a k e = k (ap is_protect_crossing (sym (scrubs_phase m g a)) ∙ e)
