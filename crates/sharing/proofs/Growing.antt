-- A quantum of a drain grows step by step.
use Rattle.std.proofs.Common.{◌≡◌, ℕ, suc, ◌+◌, Bool, true, false, List, [], ◌∷◌, ◌++◌, length, length-append}
use Rattle.std.proofs.Common.{Option, Some, None, refl, ap, sym, subst, ◌∙◌, append_assoc, append-nil}
use Rattle.std.specs.Prelude.{Result, Ok, Err, if◌then◌else◌, ◌||◌, nat_le}
use Rattle.model.specs.declared.steps.Step.TheVariants as steps
use Rattle.model.specs.States.{HeapState}
use Rattle.model.specs.declared.steps.Actor.{Actor}
use Rattle.model.specs.declared.steps.Actor.TheVariants.{Thread, Worker}
use Rattle.model.specs.declared.steps.Step.{Step}
use Rattle.model.specs.declared.steps.Answer.{Answer}
use Rattle.model.specs.declared.steps.Refusal.{Refusal}
use Rattle.model.specs.declared.steps.Refusal.TheVariants as refusals
use Rattle.model.specs.Outcome.{outcome, thread_gate}
use Rattle.model.specs.Refusing.{Outcome}
use Rattle.model.specs.Scans.{next_drain}
use Rattle.entries.specs.declared.entry.Entry.{Entry}
use Rattle.cycle.specs.Books.{BookState, BookOutcome, Reply, Acts, act_outcome, enter_accepted, is_full}
use Rattle.cycle.specs.Beginnings.{replies_to}
use Rattle.cycle.specs.Loads.{Told, tell, step_then}
use Rattle.cycle.specs.Drains.{drain_step, drain_within}
use Rattle.sharing.specs.Seats.{SeatState, Notes}
use Rattle.sharing.specs.Portions.{IsPortion}

-- ---- one step after others

no_step : (b c : BookState) (w : ℕ) → drain_within 0 b w ≡ tell c [] → b ≡ c
unfolding drain_within
no_step b c w e = ap (λ (t : Told). t.book) e

first_step : (b c : BookState) (w : ℕ) (step : Step) (a : Answer) → next_drain b.heap w ≡ Some step
    → act_outcome b (Worker w) step ≡ Ok (c, a) → drain_within 1 b w ≡ tell c (Ok a ∷ [])
unfolding drain_within step_then
first_step b c w step a next e = rw (next, e) refl

-- what follows a step of a drain that was accepted, if the ones after it were too
record Went (n : ℕ) (b d : BookState) (w : ℕ) (a : Answer) (rs : List Reply) : Type 0 where
  c : BookState
  step : Step
  next : next_drain b.heap w ≡ Some step
  acted : act_outcome b (Worker w) step ≡ Ok (c, a)
  rest : drain_within n c w ≡ tell d rs

went : (n : ℕ) (b d : BookState) (w : ℕ) (a : Answer) (rs : List Reply)
    → drain_within (suc n) b w ≡ tell d (Ok a ∷ rs) → Went n b d w a rs
unfolding drain_within step_then
went n b d w a rs e = by_next (next_drain b.heap w) refl e
  where
    by_outcome : (step : Step) → next_drain b.heap w ≡ Some step → (o : BookOutcome)
        → act_outcome b (Worker w) step ≡ o
        → step_then b o (λ c answer. drain_within n c w) ≡ tell d (Ok a ∷ rs) → Went n b d w a rs
    by_outcome step next (Err f) acted e =
        let same : ◌≡◌ {A = List Reply} (Err f ∷ []) (Ok a ∷ rs) = ap (λ (t : Told). t.replies) e in
        absurd cc
    by_outcome step next (Ok x) acted e =
        let book : (drain_within n x.0 w).book ≡ d = ap (λ (t : Told). t.book) e in
        let same : ◌≡◌ {A = List Reply} (Ok x.1 ∷ (drain_within n x.0 w).replies) (Ok a ∷ rs) =
        ap (λ (t : Told). t.replies) e in
        let head : x.1 ≡ a = cc in
        let tail : (drain_within n x.0 w).replies ≡ rs = cc in
        record {
          c = x.0;
          step = step;
          next = next;
          acted = acted ∙ ap (λ (y : Answer). Ok (x.0, y)) head;
          rest = λ i. tell (book i) (tail i);
        }

    by_next : (o : Option Step) → next_drain b.heap w ≡ o
        → drain_step b w o (λ c. drain_within n c w) ≡ tell d (Ok a ∷ rs) → Went n b d w a rs
    by_next None next e =
        let same : ◌≡◌ {A = List Reply} [] (Ok a ∷ rs) = ap (λ (t : Told). t.replies) e in
        absurd cc
    by_next (Some step) next e = by_outcome step next (act_outcome b (Worker w) step) refl e

step_first : (n : ℕ) (b c d : BookState) (w : ℕ) (step : Step) (a : Answer) (rs : List Reply)
    → next_drain b.heap w ≡ Some step → act_outcome b (Worker w) step ≡ Ok (c, a)
    → drain_within n c w ≡ tell d rs → drain_within (suc n) b w ≡ tell d (Ok a ∷ rs)
unfolding drain_within step_then
step_first n b c d w step a rs next acted rest = rw (next, acted, rest) refl

-- one more step of a drain whose steps were all accepted
drained_more : (es : List Entry) (b c d : BookState) (w : ℕ) (step : Step) (e : Entry)
    → drain_within (length es) b w ≡ tell c (replies_to es) → next_drain c.heap w ≡ Some step
    → act_outcome c (Worker w) step ≡ Ok (d, e.answer)
    → drain_within (length (es ++ e ∷ [])) b w ≡ tell d (replies_to (es ++ e ∷ []))
drained_more [] b c d w step e here next acted =
    let same : b ≡ c = no_step b c w here in
    first_step b d w step e.answer (ap (λ (y : BookState). next_drain y.heap w) same ∙ next)
    (ap (λ (y : BookState). act_outcome y (Worker w) step) same ∙ acted)
drained_more (f ∷ es) b c d w step e here next acted =
    let h = went (length es) b c w f.answer (replies_to es) here in
    step_first (length (es ++ e ∷ [])) b h.c d w h.step f.answer (replies_to (es ++ e ∷ [])) h.next h.acted
    (drained_more es h.c c d w step e h.rest next acted)

-- ---- histories

entered : (b c : BookState) (actor : Actor) (step : Step) (o : Outcome) (a : Answer)
    → enter_accepted b actor step o ≡ Ok (c, a)
    → c.history ≡ b.history ++ record { actor = actor; step = step; answer = a } ∷ []
entered b c actor step (Err e) a h = absurd cc
entered b c actor step (Ok x) a h =
    subst (λ (y : BookState × Answer). y.0.history
    ≡ b.history ++ record { actor = actor; step = step; answer = y.1 } ∷ [])
    (same_pair _ (c, a) h) refl
  where
    same_pair : (y z : BookState × Answer) → ◌≡◌ {A = BookOutcome} (Ok y) (Ok z) → y ≡ z
    same_pair y z e = cc

pub acted_history : (b c : BookState) (actor : Actor) (step : Step) (a : Answer) → act_outcome b actor step ≡ Ok (c, a)
    → c.history ≡ b.history ++ record { actor = actor; step = step; answer = a } ∷ []
unfolding act_outcome
acted_history b c actor step a h = by_full (is_full b) h
  where
    by_full : (full : Bool)
        → (if full then Err refusals.HistoryFull else enter_accepted b actor step (outcome b.heap actor step))
        ≡ Ok (c, a) → c.history ≡ b.history ++ record { actor = actor; step = step; answer = a } ∷ []
    by_full true k = absurd cc
    by_full false k = entered b c actor step (outcome b.heap actor step) a k

-- ---- quanta

pub none_done : (w : ℕ) (s : SeatState) (b : BookState) → IsPortion 0 w s b s b
unfolding drain_within
none_done w s b = record {
  steps = [];
  count = refl;
  history = sym (append-nil b.history);
  list = ap (λ (es : List Entry). record s { list = es }) (sym (append-nil s.list));
  drained = refl;
}

-- a step after those of a quantum
pub one_more : (n w : ℕ) (s t u : SeatState) (b c d : BookState) (step : Step) (reply : Reply) (a : Answer)
    → IsPortion n w s b t c → s.actor ≡ Worker w → next_drain c.heap w ≡ Some step → reply ≡ Ok a
    → Acts c reply d (act_outcome c t.actor step) → Notes t step reply u → IsPortion (n + 1) w s b u d
one_more n w s t u b c d step reply a p is next ok acts notes =
    let same : t.actor ≡ Worker w = ap (λ (x : SeatState). x.actor) p.list ∙ is in
    let e : Entry = record { actor = t.actor; step = step; answer = a } in
    let acted : act_outcome c t.actor step ≡ Ok (d, a) =
    subst (λ (x : Reply). Acts c x d (act_outcome c t.actor step)) ok acts in
    let noted : u ≡ record t { list = t.list ++ e ∷ [] } = subst (λ (x : Reply). Notes t step x u) ok notes in
    let by_worker : act_outcome c (Worker w) step ≡ Ok (d, a) =
    subst (λ (x : Actor). act_outcome c x step ≡ Ok (d, a)) same acted in
    let counted : length p.steps ≡ n = p.count in
    let more : length (p.steps ++ e ∷ []) ≡ n + 1 = length-append p.steps (e ∷ []) ∙ ap (λ (k : ℕ). k + 1) counted in
    record {
      steps = p.steps ++ e ∷ [];
      count = more;
      history = acted_history c d t.actor step a acted ∙ ap (λ (es : List Entry). es ++ e ∷ []) p.history
          ∙ append_assoc b.history p.steps (e ∷ []);
      list = noted ∙ ap (λ (x : SeatState). record x { list = x.list ++ e ∷ [] }) p.list
          ∙ ap (λ (es : List Entry). record s { list = es }) (append_assoc s.list p.steps (e ∷ []));
      drained = subst (λ (k : ℕ). drain_within k b w ≡ tell d (replies_to (p.steps ++ e ∷ []))) more
          (drained_more p.steps b c d w step e
          (subst (λ (k : ℕ). drain_within k b w ≡ tell c (replies_to p.steps)) (sym counted) p.drained) next by_worker);
    }

-- ---- threads

no_gate : (b : Bool) (other : Result (Unit {0}) Refusal)
    → (if b || true then Err refusals.NoActor else other) ≡ Err refusals.NoActor
no_gate true other = refl
no_gate false other = refl

gate_refuses : (h : HeapState) (t : ℕ) → thread_gate h t steps.ScanField ≡ Err refusals.NoActor
unfolding thread_gate
gate_refuses h t = no_gate (nat_le (length h.threads) t) _

no_actor : (h : HeapState) (t : ℕ) → outcome h (Thread t) steps.ScanField ≡ Err refusals.NoActor
unfolding outcome
no_actor h t = rw (gate_refuses h t) refl

-- a step that scans is rejected for a thread
pub full_refused : (b : BookState) (t : ℕ) → is_full b ≡ true
    → act_outcome b (Thread t) steps.ScanField ≡ Err refusals.HistoryFull
unfolding act_outcome
full_refused b t full = rw full refl

pub thread_refused : (b : BookState) (t : ℕ) → is_full b ≡ false
    → act_outcome b (Thread t) steps.ScanField ≡ Err refusals.NoActor
unfolding act_outcome
thread_refused b t full = rw (full, no_actor b.heap t) refl
