-- The first of several steps.
use Rattle.std.proofs.Common.{◌≡◌, ℕ, zero, suc, Bool, true, false, List, [], ◌∷◌, ◌++◌, Option, Some, None}
use Rattle.std.proofs.Common.{refl, ap, sym, subst, ◌∙◌, append_assoc, append-nil, rules}
use Rattle.std.specs.Prelude.{Result, Ok, Err, OnErr, if◌then◌else◌}
use Rattle.model.specs.declared.steps.Actor.{Actor}
use Rattle.model.specs.declared.steps.Actor.TheVariants.{Worker}
use Rattle.model.specs.declared.steps.Step.{Step}
use Rattle.model.specs.declared.steps.Step.TheVariants as steps
use Rattle.model.specs.declared.steps.Answer.{Answer}
use Rattle.model.specs.declared.steps.Refusal.TheVariants as refusals
use Rattle.model.specs.Outcome.{outcome}
use Rattle.model.specs.Refusing.{Outcome}
use Rattle.model.specs.Scans.{next_drain}
use Rattle.entries.specs.declared.entry.Entry.{Entry}
use Rattle.cycle.specs.Books.{BookState, BookOutcome, Reply, act_outcome, enter_accepted, is_full}
use Rattle.cycle.specs.Beginnings.{IsBeginning, replies_to}
use Rattle.cycle.specs.Loads.{Told, tell, step_then, finish_load, heal_load, is_clear, trap_load, whole_load}
use Rattle.cycle.specs.Loads.{Says}
use Rattle.cycle.specs.Drains.{drain_step, drain_within}
use Rattle.cycle.proofs.WholeLoads.{accepted}

-- ---- histories that continue

-- the history of a recorded heap continues that of another
pub record GoesOn (b c : BookState) : Type 0 where
  pub left : List Entry
  pub is : c.history ≡ b.history ++ left

goes_same : (b : BookState) → GoesOn b b
goes_same b = record { left = []; is = sym (append-nil b.history) }

goes_more : (b c d : BookState) → GoesOn b c → GoesOn c d → GoesOn b d
goes_more b c d g h = record {
  left = g.left ++ h.left;
  is = h.is ∙ ap (λ (es : List Entry). es ++ h.left) g.is ∙ append_assoc b.history g.left h.left;
}

same_acted : (x y : BookState × Answer) → ◌≡◌ {A = BookOutcome} (Ok x) (Ok y) → x ≡ y
same_acted x y e = cc

entered_goes : (b c : BookState) (actor : Actor) (step : Step) (o : Outcome) (a : Answer)
    → enter_accepted b actor step o ≡ Ok (c, a) → GoesOn b c
entered_goes b c actor step (Err e) a h = absurd cc
entered_goes b c actor step (Ok x) a h =
    subst (λ (y : BookState × Answer). GoesOn b y.0) (same_acted _ (c, a) h) (record {
      left = record { actor = actor; step = step; answer = x.1 } ∷ [];
      is = refl;
    })

acted_goes : (b c : BookState) (actor : Actor) (step : Step) (a : Answer) → act_outcome b actor step ≡ Ok (c, a)
    → GoesOn b c
unfolding act_outcome
acted_goes b c actor step a h = by_full (is_full b) h
  where
    by_full : (full : Bool)
        → (if full then Err refusals.HistoryFull else enter_accepted b actor step (outcome b.heap actor step))
        ≡ Ok (c, a) → GoesOn b c
    by_full true k = absurd cc
    by_full false k = entered_goes b c actor step (outcome b.heap actor step) a k

-- a step, and what follows it
pub then_goes : (b : BookState) (actor : Actor) (step : Step) (next : BookState → Answer → Told)
    → ((c : BookState) (a : Answer) → GoesOn c (next c a).book)
    → GoesOn b (step_then b (act_outcome b actor step) next).book
unfolding step_then
then_goes b actor step next h = by_outcome (act_outcome b actor step) refl
  where
    by_outcome : (o : BookOutcome) → act_outcome b actor step ≡ o → GoesOn b (step_then b o next).book
    by_outcome (Ok x) e = goes_more b x.0 (next x.0 x.1).book (acted_goes b x.0 actor step x.1 e) (h x.0 x.1)
    by_outcome (Err n) e = goes_same b

pub finish_goes : (b : BookState) (actor : Actor) → GoesOn b (finish_load b actor).book
finish_goes b actor = then_goes b actor steps.Finish (λ c a. tell c []) (λ c a. goes_same c)

pub heal_goes : (due : Bool) (b : BookState) (actor : Actor) → GoesOn b (heal_load due b actor).book
heal_goes false b actor = finish_goes b actor
heal_goes true b actor =
    then_goes b actor steps.Heal (λ c a. finish_load c actor) (λ c a. finish_goes c actor)

pub trap_goes : (n : ℕ) (due : Bool) (b : BookState) (actor : Actor) → GoesOn b (trap_load n due b actor).book
unfolding trap_load
trap_goes zero due b actor = heal_goes due b actor
trap_goes (suc n) due b actor = then_goes b actor steps.Trap
    (λ c a. if is_clear a then heal_load due c actor else trap_load n true c actor)
    (λ c a. by_clear c (is_clear a) (trap_goes n true c actor))
  where
    by_clear : (c : BookState) (x : Bool) → GoesOn c (trap_load n true c actor).book
        → GoesOn c (if x then heal_load due c actor else trap_load n true c actor).book
    by_clear c true g = heal_goes due c actor
    by_clear c false g = g

pub whole_goes : (b : BookState) (actor : Actor) (load : Step) → GoesOn b (whole_load b actor load).book
whole_goes b actor load =
    then_goes b actor load (λ c a. trap_load 3 false c actor) (λ c a. trap_goes 3 false c actor)

pub drain_goes : (n : ℕ) (b : BookState) (w : ℕ) → GoesOn b (drain_within n b w).book
unfolding drain_within
drain_goes zero b w = goes_same b
drain_goes (suc n) b w = by_next (next_drain b.heap w) (λ c. drain_goes n c w)
  where
    by_next : (o : Option Step) → ((c : BookState) → GoesOn c (drain_within n c w).book)
        → GoesOn b (drain_step b w o (λ c. drain_within n c w)).book
    by_next None g = goes_same b
    by_next (Some step) g = then_goes b (Worker w) step (λ c a. drain_within n c w) (λ c a. g c)

-- ---- beginnings

-- no step was done
pub none_begun : (whole old : BookState) (before : List Reply) (new : BookState) (all : List Reply) → GoesOn old whole
    → new ≡ old → all ≡ before → IsBeginning whole old before new all
none_begun whole old before new all g book replies = record {
  steps = [];
  left = g.left;
  accepted = book;
  first = g.is ∙ ap (λ (b : BookState). b.history ++ g.left) (sym book);
  told = replies ∙ sym (append-nil before);
}

-- a step was done, and then a beginning of those after it
pub more_begun : (whole old b : BookState) (actor : Actor) (step : Step) (a : Answer) (before more : List Reply)
    (new : BookState) (all : List Reply) → act_outcome old actor step ≡ Ok (b, a) → more ≡ before ++ Ok a ∷ []
    → IsBeginning whole b more new all → IsBeginning whole old before new all
more_begun whole old b actor step a before more new all is put h = record {
  steps = record { actor = actor; step = step; answer = a } ∷ h.steps;
  left = h.left;
  accepted = (b, is, h.accepted);
  first = h.first;
  told = h.told ∙ ap (λ (rs : List Reply). rs ++ replies_to h.steps) put
      ∙ append_assoc before (Ok a ∷ []) (replies_to h.steps);
}

-- replaces the recorded heap that all steps would leave with an equal one
pub same_whole : (whole rest old : BookState) (before : List Reply) (new : BookState) (all : List Reply) → rest ≡ whole
    → IsBeginning rest old before new all → IsBeginning whole old before new all
same_whole whole rest old before new all e h = subst (λ (b : BookState). IsBeginning b old before new all) e h

step_book : (b c : BookState) (o : BookOutcome) (a : Answer) (next : BookState → Answer → Told) → o ≡ Ok (c, a)
    → (step_then b o next).book ≡ (next c a).book
unfolding step_then
step_book b c o a next e = rw e refl

-- a step was accepted
pub step_begun : (whole old b : BookState) (actor : Actor) (step : Step) (reply : Reply) (a : Answer)
    (before more : List Reply) (new : BookState) (all : List Reply) → reply ≡ Ok a
    → Says old reply b (act_outcome old actor step) → more ≡ before ++ reply ∷ [] → IsBeginning whole b more new all
    → IsBeginning whole old before new all
step_begun whole old b actor step reply a before more new all e says put h =
    more_begun whole old b actor step a before more new all (accepted old b _ reply a e says)
    (put ∙ ap (λ (x : Reply). before ++ x ∷ []) e) h

-- a step was accepted, and then a beginning of those after it
pub then_begun : (old b : BookState) (actor : Actor) (step : Step) (reply : Reply) (a : Answer)
    (next : BookState → Answer → Told) (before more : List Reply) (new : BookState) (all : List Reply) → reply ≡ Ok a
    → Says old reply b (act_outcome old actor step) → more ≡ before ++ reply ∷ []
    → IsBeginning (next b a).book b more new all
    → IsBeginning (step_then old (act_outcome old actor step) next).book old before new all
then_begun old b actor step reply a next before more new all e says put h =
    let o = act_outcome old actor step in
    let whole = (step_then old o next).book in
    step_begun whole old b actor step reply a before more new all e says put
    (same_whole whole (next b a).book b more new all
    (sym (step_book old b o a next (accepted old b o reply a e says))) h)

-- the same for a heal that was due
pub heal_begun : (due : Bool) (old b : BookState) (actor : Actor) (reply : Reply) (a : Answer)
    (before more : List Reply) (new : BookState) (all : List Reply) → due ≡ true → reply ≡ Ok a
    → Says old reply b (act_outcome old actor steps.Heal) → more ≡ before ++ reply ∷ []
    → IsBeginning (finish_load b actor).book b more new all
    → IsBeginning (heal_load due old actor).book old before new all
heal_begun due old b actor reply a before more new all is e says put h =
    subst (λ (x : Bool). IsBeginning (heal_load x old actor).book old before new all) (sym is)
    (then_begun old b actor steps.Heal reply a (λ c answer. finish_load c actor) before more new all e says put h)

-- a beginning from here on is a beginning from the start
abbrev pub LeadsOn : BookState → BookState → List Reply → BookState → List Reply → Type 0
LeadsOn whole old before b more =
    (new : BookState) (all : List Reply) → IsBeginning whole b more new all → IsBeginning whole old before new all

-- the same after one more step
pub leads_more : (whole old : BookState) (before : List Reply) (b c : BookState) (actor : Actor) (step : Step)
    (reply : Reply) (a : Answer) (rs more : List Reply) → LeadsOn whole old before b rs → reply ≡ Ok a
    → Says b reply c (act_outcome b actor step) → more ≡ rs ++ reply ∷ [] → LeadsOn whole old before c more
leads_more whole old before b c actor step reply a rs more leads e says put new all h =
    leads new all (step_begun whole b c actor step reply a rs more new all e says put h)

-- a consequence of what a result has if it is an error
pub on_err : {X E : Type 0} (r : Result X E) (P Q : Type 0) → OnErr r P → (P → Q) → OnErr r Q
on_err (Ok x) P Q h k = search rules
on_err (Err e) P Q h k = k h

-- what holds in any case holds if the result is an error
pub at_err : {X E : Type 0} (r : Result X E) (P : Type 0) → P → OnErr r P
at_err (Ok x) P p = search rules
at_err (Err e) P p = p

-- a call that did nothing if out of memory
pub none_done : {X E : Type 0} (r : Result X E) (whole old : BookState) (before : List Reply) (new : BookState)
    (all : List Reply) → GoesOn old whole → OnErr r (new ≡ old) → OnErr r (all ≡ before)
    → OnErr r (IsBeginning whole old before new all)
none_done (Ok x) whole old before new all g book replies = search rules
none_done (Err e) whole old before new all g book replies = none_begun whole old before new all g book replies

-- the recorded heap that all steps of a load would leave is the one that the remaining steps would leave
pub same_goes : (b rest whole : BookState) → rest ≡ whole → GoesOn b rest → GoesOn b whole
same_goes b rest whole e g = subst (GoesOn b) e g
