-- Parts of a collection, from one to the next.
use Rattle.std.proofs.Common.{◌≡◌, ◌∙◌, ℕ, suc, ◌+◌, ◌≤◌, ◌<◌, Bool, true, false, List, [], ◌∷◌, length}
use Rattle.std.proofs.Common.{Option, Some, None, refl, sym, subst, ap, inl, inr, arith, eq-eqb, eqb-true}
use Rattle.std.specs.Prelude.{Result, Ok, Err, ◌==◌, nat_le}
use Rattle.std.specs.List.{slice_get}
use Rattle.std.proofs.lemmas.Bool.{true≢false}
use Rattle.model.specs.declared.steps.Actor.TheVariants.{Worker}
use Rattle.model.specs.declared.steps.Step.{Step}
use Rattle.model.specs.declared.steps.Step.TheVariants as steps
use Rattle.model.specs.declared.steps.Answer.{Answer}
use Rattle.model.specs.declared.steps.Refusal.{Refusal}
use Rattle.model.specs.declared.steps.Refusal.TheVariants as refusals
use Rattle.model.specs.Checkpoints.{all_crossed}
use Rattle.model.specs.Outcome.{outcome}
use Rattle.model.specs.Refusing.{Outcome, DoesStep}
use Rattle.model.specs.States.{HeapState}
use Rattle.refinement.specs.Standing.{KeepsStanding}
use Rattle.managed.specs.Collecting.{Crosses, EndsCrossing, StopsCrossing}
use Rattle.managed.specs.Emptying.{Protects}
use Rattle.managed.specs.Goings.{Goes, IsScrub, Steps}
use Rattle.managed.proofs.Gathering.{crossings_collect}
use Rattle.managed.proofs.Running.{runs_one}
use Rattle.collecting.specs.declared.words.LiveWords.{LiveWords}
use Rattle.collecting.specs.declared.parts.Stage.{Stage}
use Rattle.collecting.specs.declared.parts.Stage.TheVariants as stages
use Rattle.collecting.specs.Collections.{WORKER, Collects}
use Rattle.collecting.specs.Parts.{EndsPortion, EndsProtecting, EndsStage, Stops, StopsAt}
use Rattle.collecting.specs.Parts.{is_memory}
use Rattle.collecting.specs.Parts.{Crossing, Emptying}
use Rattle.collecting.specs.Stages.{PartsState, at_stage, no_words, passed, with_copied, EndsMarking, MarksOn}
use Rattle.collecting.specs.Stages.{TellsAnew, EndsCrossed, ProtectsSome, ProtectsOn, ChoosesAll, IsChosen}
use Rattle.collecting.specs.Stages.{PreparesIf, PreparesOn, PreparesSome}
use Rattle.collecting.specs.Stages.{EmptiesOn, EndsOne, GoesOnIn, GoesOn, PartGoesOn}
use Rattle.collecting.specs.Stages.{Measures, MeasuresOn, measured_by, measured_one, pages_in, preparing, preparings}
use Rattle.collecting.proofs.Collections.{none, and_then}

-- ---- marks

pub marks_ended : (p q : PartsState) (h g : HeapState) (s : Result Bool Refusal) → s ≡ Ok true → EndsMarking h s g
    → q ≡ at_stage stages.Choose p.most p.chosen no_words → MarksOn p h (Ok false) q g
marks_ended p q h g s is k new =
    let m : EndsMarking h (Ok true) g = subst (λ (x : Result Bool Refusal). EndsMarking h x g) is k in
    (refl, m.0, inr (new, m.1))

pub marks_on : (p : PartsState) (h g : HeapState) (s : Result Bool Refusal) → s ≡ Ok false → EndsMarking h s g
    → MarksOn p h (Ok false) p g
marks_on p h g s is k =
    let m : EndsMarking h (Ok false) g = subst (λ (x : Result Bool Refusal). EndsMarking h x g) is k in
    (refl, m, inl refl)

pub marks_stop : (p : PartsState) (h g : HeapState) (s : Result Bool Refusal) (e : Refusal) → s ≡ Err e
    → EndsMarking h s g → MarksOn p h (Err e) p g
marks_stop p h g s e is k =
    (refl, subst (λ (x : Result Bool Refusal). EndsMarking h x g) is k)

-- ---- crossings

stops_here : (h g : HeapState) (e : Refusal) → Collects h g → StopsAt h e g → Stops h e g
stops_here h g e a k = (a, (h, none h, k))

stopped_crossing : (h g : HeapState) (e : Refusal) → StopsCrossing WORKER h e g → Stops h e g
stopped_crossing h g e k = stops_here h g e (crossings_collect WORKER h g k.0) (Crossing k)

crosses_goes : (h g : HeapState) → Crosses WORKER h g → Collects h g
crosses_goes h g k = crossings_collect WORKER h g k.0

pub crossed_all : (g h : HeapState) (r : Result Unit Refusal) (u : Unit {0}) → r ≡ Ok u → EndsCrossing WORKER h r g
    → all_crossed g ≡ Ok tt
crossed_all g h r u is k =
    let c : EndsCrossing WORKER h (Ok u) g = subst (λ (x : Result Unit Refusal). EndsCrossing WORKER h x g) is k in c.1

pub crossed_on : (h g : HeapState) (r : Result Unit Refusal) (u : Unit {0}) → r ≡ Ok u → EndsCrossing WORKER h r g
    → EndsCrossed h (Ok false) g
crossed_on h g r u is k = (refl, subst (λ (x : Result Unit Refusal). EndsCrossing WORKER h x g) is k)

pub crossed_stops : (h g : HeapState) (r : Result Unit Refusal) (e : Refusal) → r ≡ Err e → EndsCrossing WORKER h r g
    → StopsCrossing WORKER h e g
crossed_stops h g r e is k = subst (λ (x : Result Unit Refusal). EndsCrossing WORKER h x g) is k

pub crossed_portion : (h g : HeapState) (r : Result Unit Refusal) → EndsCrossing WORKER h r g → EndsPortion h r g
crossed_portion h g (Ok u) k = crosses_goes h g k
crossed_portion h g (Err e) k = stopped_crossing h g e k

-- ---- a page

-- where it failed
one_stops : (n : ℕ) (h : HeapState) (e : Refusal) (g : HeapState) → EndsOne n h (Err e) g → Stops h e g
one_stops n h e g (inl k) = stopped_crossing h g e k
one_stops n h e g (inr k) =
    let m = k.0 in
    let goes : Collects h m = crosses_goes h m k.2 in
    (and_then h m g goes k.3.0, (m, goes, Emptying n k.3.1))

pub empties_none : (p q : PartsState) (h : HeapState) (o : Option ℕ) → o ≡ slice_get p.chosen p.next → o ≡ None
    → q ≡ at_stage stages.Mark p.most p.chosen p.words → EmptiesOn p h (Ok true) q h
empties_none p q h o told is new = inl (sym told ∙ is, new, refl)

pub empties_next : (p q : PartsState) (h g : HeapState) (o : Option ℕ) (n : ℕ) (r : Result Unit Refusal) (u : Unit {0})
    → o ≡ slice_get p.chosen p.next → o ≡ Some n → r ≡ Ok u → EndsOne n h r g → q ≡ passed p
    → EmptiesOn p h (Ok false) q g
empties_next p q h g o n r u told is done k new =
    inr (refl, new, (n, sym told ∙ is, subst (λ (x : Result Unit Refusal). EndsOne n h x g) done k))

pub empties_stop : (p : PartsState) (h g : HeapState) (o : Option ℕ) (n : ℕ) (r : Result Unit Refusal) (e : Refusal)
    → o ≡ slice_get p.chosen p.next → o ≡ Some n → r ≡ Err e → EndsOne n h r g → EmptiesOn p h (Err e) p g
empties_stop p h g o n r e told is failed k =
    (refl, (n, sym told ∙ is, subst (λ (x : Result Unit Refusal). EndsOne n h x g) failed k))

-- ---- protection

memory_is : (e : Refusal) → is_memory e ≡ true → e ≡ refusals.Memory
memory_is refusals.Memory k = refl
memory_is _ k = absurd (true≢false (sym k))

refused_same : (h g : HeapState) (ns : List ℕ) (e : Refusal) (o : Outcome) → DoesStep h (steps.Protect ns) (Err e) g o
    → g ≡ h
refused_same h g ns e o does = grind arith

refused_so : (h g : HeapState) (ns : List ℕ) (e : Refusal) (o : Outcome) → is_memory e ≡ false
    → DoesStep h (steps.Protect ns) (Err e) g o → o ≡ Err e
refused_so h g ns refusals.Memory o k does = absurd (true≢false k)
refused_so h g ns _ o k does = does.0

pub protect_ends : (h g : HeapState) (ns : List ℕ) (s : Result Answer Refusal) (a : Answer) → s ≡ Ok a
    → DoesStep h (steps.Protect ns) s g (outcome h (Worker WORKER) (steps.Protect ns))
    → KeepsStanding h (Worker WORKER) (steps.Protect ns) s g → EndsProtecting h ns (Ok tt) g
protect_ends h g ns (Err e) a is does keeps = absurd (cc)
protect_ends h g ns (Ok x) a is does keeps =
    (x, runs_one h g (Worker WORKER) (steps.Protect ns) x does keeps)

pub protected_then : (ns : List ℕ) (p q : PartsState) (h m g : HeapState) (s : Result Unit Refusal) (u : Unit {0})
    (r : Result Bool Refusal) → s ≡ Ok u → EndsProtecting h ns s m → p.chosen ≡ ns
    → q ≡ at_stage stages.Empty p.most p.chosen p.words → EndsCrossed m r g → ProtectsSome ns p.most p.words h r q g
protected_then ns p q h m g s u r is k same new c = by_result r c
  where
    first : Protects WORKER h ns m
    first = subst (λ (x : Result Unit Refusal). EndsProtecting h ns x m) is k

    at : q ≡ at_stage stages.Empty p.most ns p.words
    at = new ∙ ap (λ (xs : List ℕ). at_stage stages.Empty p.most xs p.words) same

    by_result : (r : Result Bool Refusal) → EndsCrossed m r g → ProtectsSome ns p.most p.words h r q g
    by_result (Ok b) c = (c.0, inl (at, (m, first, c.1)))
    by_result (Err e) c = inr (at, (m, first, c))

pub protected_not : (ns : List ℕ) (p q : PartsState) (h g : HeapState) (s : Result Unit Refusal) (e : Refusal)
    (r : Result Bool Refusal) → s ≡ Err e → EndsProtecting h ns s g → p.chosen ≡ ns → TellsAnew e p r q
    → ProtectsSome ns p.most p.words h r q g
protected_not ns p q h g s e r is k same told = by_result r told
  where
    d : EndsProtecting h ns (Err e) g
    d = subst (λ (x : Result Unit Refusal). EndsProtecting h ns x g) is k

    stays : g ≡ h
    stays = refused_same h g ns e (outcome h (Worker WORKER) (steps.Protect ns)) d.1

    by_result : (r : Result Bool Refusal) → TellsAnew e p r q → ProtectsSome ns p.most p.words h r q g
    by_result (Ok b) t = (
      t.0,
      inr (
        t.2 ∙ ap (λ (xs : List ℕ). at_stage stages.Mark p.most xs p.words) same,
        stays,
        (e, t.1, refused_so h g ns e (outcome h (Worker WORKER) (steps.Protect ns)) t.1 d.1),
      ),
    )
    by_result (Err x) t = inl (t.0 ∙ memory_is e t.1, stays)

-- ---- choices

pub listed_none : (n : ℕ) (ns : List ℕ) (b : Bool) → b ≡ (n == 0) → b ≡ true → n ≡ length ns → ns ≡ []
listed_none n [] b told is same = refl
listed_none n (x ∷ xs) b told is same =
    let none_there : n ≡ 0 = eqb-true n 0 (sym told ∙ is) in absurd (omega (arith, none_there, same))

pub listed_some : (n : ℕ) (ns : List ℕ) (b : Bool) → b ≡ (n == 0) → b ≡ false → n ≡ length ns → ns ≡ [] → ⊥
listed_some n ns b told is same e =
    true≢false (sym (eq-eqb n 0 (same ∙ ap length e)) ∙ sym told ∙ is)

pub chooses_none : (p m q : PartsState) (h : HeapState) (ns : List ℕ) (copied : ℕ) → IsChosen p.most h p.found ns copied
    → m.chosen ≡ ns → m.words ≡ with_copied copied p.words → m.most ≡ p.most → ns ≡ []
    → q ≡ at_stage stages.Mark m.most m.chosen m.words → ChoosesAll p h (Ok true) q h
chooses_none p m q h ns copied k same words most is new = (
  [],
  copied,
  subst (λ (xs : List ℕ). IsChosen p.most h p.found xs copied) is k,
  (
    new ∙ ap (λ (xs : List ℕ). at_stage stages.Mark m.most xs m.words) (same ∙ is)
        ∙ ap (at_stage stages.Mark m.most []) words
        ∙ ap (λ (n : ℕ). at_stage stages.Mark n [] (with_copied copied p.words)) most,
    refl,
  ),
)

some_on : (ns : List ℕ) (most : ℕ) (words : LiveWords) (h : HeapState) (r : Result Bool Refusal) (q : PartsState)
    (g : HeapState) → (ns ≡ [] → ⊥) → ProtectsSome ns most words h r q g → ProtectsOn ns most words h r q g
some_on [] most words h r q g some k = absurd (some refl)
some_on (n ∷ ns) most words h r q g some k = k

pub chooses_some : (p m q : PartsState) (h g : HeapState) (ns : List ℕ) (copied : ℕ) (r : Result Bool Refusal)
    → IsChosen p.most h p.found ns copied → m.words ≡ with_copied copied p.words → m.most ≡ p.most → (ns ≡ [] → ⊥)
    → ProtectsSome ns m.most m.words h r q g → ChoosesAll p h r q g
chooses_some p m q h g ns copied r c words most some k =
    by_result r (some_on ns p.most (with_copied copied p.words) h r q g some
    (subst (λ (n : ℕ). ProtectsSome ns n (with_copied copied p.words) h r q g) most
    (subst (λ (w : LiveWords). ProtectsSome ns m.most w h r q g) words k)))
  where
    by_result : (r : Result Bool Refusal) → ProtectsOn ns p.most (with_copied copied p.words) h r q g
        → ChoosesAll p h r q g
    by_result (Ok b) k = (ns, copied, c, k)
    by_result (Err e) k = inr (ns, copied, c, k)

pub chooses_lacks : (p q : PartsState) (h : HeapState) → ChoosesAll p h (Err refusals.Memory) q h
chooses_lacks p q h = inl (refl, refl)

pub measures_end : (percent budget : ℕ) (p m q : PartsState) (h : HeapState)
    → Measures h percent (pages_in budget h.config.words) p true m → q ≡ preparing h m
    → MeasuresOn percent budget p h (Ok false) q h
measures_end percent budget p m q h a is = (refl, refl, inr (m, a, is))

pub measures_on : (percent budget : ℕ) (p q : PartsState) (h : HeapState)
    → Measures h percent (pages_in budget h.config.words) p false q → MeasuresOn percent budget p h (Ok false) q h
measures_on percent budget p q h a = (refl, refl, inl a)

-- ---- the preparing of frames

pub prepares_then : (budget : ℕ) (p q : PartsState) (h m g : HeapState) (b : Bool) (r : Result Bool Refusal)
    → b ≡ nat_le (preparings budget p m) p.next → m ≡ h → b ≡ true → ChoosesAll p h r q g → PreparesOn budget p h r q g
prepares_then budget p q h m g b r told same is k =
    subst (λ (x : Bool). PreparesIf x p h r q g)
    (sym is ∙ told ∙ ap (λ (x : HeapState). nat_le (preparings budget p x) p.next) same) k

pub prepares_else : (budget : ℕ) (p q : PartsState) (h m g : HeapState) (b : Bool) (r : Result Bool Refusal)
    → b ≡ nat_le (preparings budget p m) p.next → m ≡ h → b ≡ false → PreparesSome p h r q g
    → PreparesOn budget p h r q g
prepares_else budget p q h m g b r told same is k =
    subst (λ (x : Bool). PreparesIf x p h r q g)
    (sym is ∙ told ∙ ap (λ (x : HeapState). nat_le (preparings budget p x) p.next) same) k

-- ---- measuring

-- n pages were measured, at most `most`
pub record MeasuredTo (h : HeapState) (percent most n : ℕ) (p q : PartsState) : Type 0 where
  pub few : n ≤ most
  pub is : q ≡ measured_by h percent n p

pub measured_first : (h : HeapState) (percent most : ℕ) (p : PartsState) → MeasuredTo h percent most 0 p p
measured_first h percent most p = record { few = omega arith; is = refl }

pub measured_more : (h : HeapState) (percent most n : ℕ) (p m q : PartsState) → n < most
    → MeasuredTo h percent most n p m → q ≡ measured_one h percent m → MeasuredTo h percent most (n + 1) p q
measured_more h percent most n p m q l k one =
    let next : suc n ≡ n + 1 = omega arith in record {
      few = omega (arith, l);
      is = one ∙ ap (measured_one h percent) k.is ∙ ap (λ (i : ℕ). measured_by h percent i p) next;
    }

pub measured_all : (h : HeapState) (percent most n : ℕ) (p q : PartsState) → MeasuredTo h percent most n p q
    → h.store.count ≤ q.next → Measures h percent most p true q
measured_all h percent most n p q k past = (n, k.few, k.is, past)

pub measured_many : (h : HeapState) (percent most n : ℕ) (p q : PartsState) → most ≤ n → MeasuredTo h percent most n p q
    → Measures h percent most p false q
measured_many h percent most n p q l k =
    let few = k.few in
    let same : n ≡ most = omega (arith, l, few) in
    subst (λ (i : ℕ). q ≡ measured_by h percent i p) same k.is

-- ---- all of it

step_goes : (h m : HeapState) (step : Step) (a : Answer) → Steps (Worker WORKER) step a h m → Collects h m
step_goes h m step a k =
    record { entries = record { actor = Worker WORKER; step = step; answer = a } ∷ []; each = (refl, tt); runs = k }

protects_goes : (h m : HeapState) (ns : List ℕ) → Protects WORKER h ns m → Collects h m
protects_goes h m ns k = step_goes h m (steps.Protect ns) k.0 k.1

some_stage : (ns : List ℕ) (most : ℕ) (words : LiveWords) (h : HeapState) (r : Result Bool Refusal) (q : PartsState)
    (g : HeapState) → ProtectsSome ns most words h r q g → EndsStage h r g
some_stage ns most words h (Ok b) q g (f, inl k) =
    let m = k.1.0 in and_then h m g (protects_goes h m ns k.1.1) (crosses_goes m g k.1.2)
some_stage ns most words h (Ok b) q g (f, inr k) = subst (Collects h) (sym k.1) (none h)
some_stage ns most words h (Err e) q g (inl k) = inr k
some_stage ns most words h (Err e) q g (inr k) =
    let m = k.1.0 in
    let first : Collects h m = protects_goes h m ns k.1.1 in
    inl (and_then h m g first (crossings_collect WORKER m g k.1.2.0), (m, first, Crossing k.1.2))

on_stage : (ns : List ℕ) (most : ℕ) (words : LiveWords) (h : HeapState) (r : Result Bool Refusal) (q : PartsState)
    (g : HeapState) → ProtectsOn ns most words h r q g → EndsStage h r g
on_stage [] most words h (Ok b) q g k = subst (Collects h) (sym k.1) (none h)
on_stage [] most words h (Err e) q g k = absurd k
on_stage (n ∷ ns) most words h r q g k = some_stage (n ∷ ns) most words h r q g k

all_stage : (p : PartsState) (h : HeapState) (r : Result Bool Refusal) (q : PartsState) (g : HeapState)
    → ChoosesAll p h r q g → EndsStage h r g
all_stage p h (Ok b) q g k = on_stage k.0 p.most (with_copied k.1 p.words) h (Ok b) q g k.3
all_stage p h (Err e) q g (inl k) = inr k
all_stage p h (Err e) q g (inr k) = on_stage k.0 p.most (with_copied k.1 p.words) h (Err e) q g k.3

if_stage : (b : Bool) (p : PartsState) (h : HeapState) (r : Result Bool Refusal) (q : PartsState) (g : HeapState)
    → PreparesIf b p h r q g → EndsStage h r g
if_stage true p h r q g k = all_stage p h r q g k
if_stage false p h (Ok b) q g k = subst (Collects h) (sym k.2) (none h)
if_stage false p h (Err e) q g k = inr k.1

stage_in : (s : Stage) (percent budget : ℕ) (p : PartsState) (h : HeapState) (r : Result Bool Refusal) (q : PartsState)
    (g : HeapState) → GoesOnIn s percent budget p h r q g → EndsStage h r g
stage_in stages.Mark percent budget p h (Ok b) q g k = k.1
stage_in stages.Mark percent budget p h (Err e) q g k = inl k.1
stage_in stages.Choose percent budget p h (Ok b) q g k = subst (Collects h) (sym k.1) (none h)
stage_in stages.Choose percent budget p h (Err e) q g k = inr k
stage_in stages.Prepare percent budget p h r q g k = if_stage (nat_le (preparings budget p h) p.next) p h r q g k
stage_in stages.Empty percent budget p h (Ok b) q g (inl k) = subst (Collects h) (sym k.2) (none h)
stage_in stages.Empty percent budget p h (Ok b) q g (inr k) =
    let m = k.2.2.0 in and_then h m g (crosses_goes h m k.2.2.2) k.2.2.3.goes
stage_in stages.Empty percent budget p h (Err e) q g k = inl (one_stops k.1.0 h e g k.1.2)

pub goes_stage : (percent budget : ℕ) (p : PartsState) (h : HeapState) (r : Result Bool Refusal) (q : PartsState)
    (g : HeapState) → GoesOn percent budget p h r q g → EndsStage h r g
goes_stage percent budget p h r q g k = stage_in p.stage percent budget p h r q g k

pub goes_in : (s : Stage) (percent budget : ℕ) (p q : PartsState) (h g : HeapState) (r : Result Bool Refusal)
    → p.stage ≡ s → GoesOnIn s percent budget p h r q g → GoesOn percent budget p h r q g
goes_in s percent budget p q h g r is k =
    subst (λ (x : Stage). GoesOnIn x percent budget p h r q g) (sym is) k

pub part_on : (percent budget : ℕ) (p q : PartsState) (h m g : HeapState) (r : Result Bool Refusal) (last b : Bool)
    → r ≡ Ok last → GoesOn percent budget p h r q m → Goes IsScrub m g → (b ≡ true → last ≡ true)
    → PartGoesOn percent budget p h (Ok b) q g
part_on percent budget p q h m g r last b is k a ends =
    (m, last, subst (λ (x : Result Bool Refusal). GoesOn percent budget p h x q m) is k, a, ends)

pub part_off : (percent budget : ℕ) (p q : PartsState) (h g : HeapState) (r : Result Bool Refusal) (e : Refusal)
    → r ≡ Err e → GoesOn percent budget p h r q g → PartGoesOn percent budget p h (Err e) q g
part_off percent budget p q h g r e is k =
    subst (λ (x : Result Bool Refusal). GoesOn percent budget p h x q g) is k
