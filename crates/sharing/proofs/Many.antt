-- Several steps of one actor, one after another.
use Rattle.std.proofs.Common.{◌≡◌, ◌≤◌, ℕ, ◌+◌, List, [], ◌∷◌, ◌++◌, length, length-append, arith, Bool}
use Rattle.std.proofs.Common.{refl, ap, sym, subst, ◌∙◌, append_assoc, append-nil}
use Rattle.std.specs.Prelude.{Result, Ok, Err}
use Rattle.model.specs.declared.steps.Actor.{Actor}
use Rattle.model.specs.declared.steps.Step.{Step}
use Rattle.model.specs.declared.steps.Refusal.{Refusal}
use Rattle.entries.specs.declared.entry.Entry.{Entry}
use Rattle.cycle.specs.Books.{BookState, Reply, Acts, act_outcome}
use Rattle.sharing.specs.Many.{LeadTo, HasGrown, EndsMany}
use Rattle.sharing.specs.Seats.{SeatState, Notes}
use Rattle.sharing.proofs.Growing.{acted_history}

lead_more : (actor : Actor) (es : List Entry) (b c d : BookState) (e : Entry) → LeadTo actor es b c
    → act_outcome c actor e.step ≡ Ok (d, e.answer) → LeadTo actor (es ++ e ∷ []) b d
lead_more actor [] b c d e same acted =
    (d, subst (λ (y : BookState). act_outcome y actor e.step ≡ Ok (d, e.answer)) (sym same) acted, refl)
lead_more actor (f ∷ es) b c d e led acted = (led.0, led.1, lead_more actor es led.0 c d e led.2 acted)

pub none_grown : (s : SeatState) (b : BookState) → HasGrown 0 s b s b
none_grown s b = record {
  steps = [];
  few = omega (arith);
  history = sym (append-nil b.history);
  list = ap (λ (es : List Entry). record s { list = es }) (sym (append-nil s.list));
  led = refl;
}

-- one more step of the actor, with any reply
pub grown_more : (n : ℕ) (s t u : SeatState) (b c d : BookState) (step : Step) (reply : Reply) → HasGrown n s b t c
    → Acts c reply d (act_outcome c t.actor step) → Notes t step reply u → HasGrown (n + 1) s b u d
grown_more n s t u b c d step (Ok a) g acts notes =
    let e : Entry = record { actor = t.actor; step = step; answer = a } in
    let same : t.actor ≡ s.actor = ap (λ (x : SeatState). x.actor) g.list in
    let acted : act_outcome c s.actor step ≡ Ok (d, a) =
    subst (λ (x : Actor). act_outcome c x step ≡ Ok (d, a)) same acts in
    let one : length (g.steps ++ e ∷ []) ≡ length g.steps + length (e ∷ []) = length-append g.steps (e ∷ []) in
    record {
      steps = g.steps ++ e ∷ [];
      few = omega (arith, g.few, one);
      history = acted_history c d t.actor step a acts ∙ ap (λ (es : List Entry). es ++ e ∷ []) g.history
          ∙ append_assoc b.history g.steps (e ∷ []);
      list = notes ∙ ap (λ (x : SeatState). record x { list = x.list ++ e ∷ [] }) g.list
          ∙ ap (λ (es : List Entry). record s { list = es }) (append_assoc s.list g.steps (e ∷ []));
      led = lead_more s.actor g.steps b c d e g.led acted;
    }
grown_more n s t u b c d step (Err f) g acts notes = record {
  steps = g.steps;
  few = omega (arith, g.few);
  history = ap (λ (y : BookState). y.history) acts.1 ∙ g.history;
  list = notes ∙ g.list;
  led = subst (λ (y : BookState). LeadTo s.actor g.steps b y) (sym acts.1) g.led;
}

-- a number of steps is also at most a larger number
pub grown_within : (n most : ℕ) (s t : SeatState) (b c : BookState) → n ≤ most → HasGrown n s b t c
    → HasGrown most s b t c
grown_within n most s t b c low g = record {
  steps = g.steps;
  few = omega (arith, g.few, low);
  history = g.history;
  list = g.list;
  led = g.led;
}

-- a rejected step of a seat whose actor is that of another
pub ended : (s t : SeatState) (b c : BookState) (step : Step) (e : Refusal) → t.actor ≡ s.actor
    → Acts b (Err e) c (act_outcome b t.actor step) → EndsMany (Err e) s.actor c
ended s t b c step e same acts = (
  step,
  subst (λ (y : BookState). Acts y (Err e) y (act_outcome y s.actor step)) (sym acts.1)
      (subst (λ (x : Actor). Acts b (Err e) b (act_outcome b x step)) same (acts.0, refl)),
)
