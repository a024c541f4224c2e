-- The steps of a drain, one after another.
use Rattle.std.proofs.Common.{◌≡◌, ℕ, suc, List, [], ◌∷◌, ◌++◌}
use Rattle.std.proofs.Common.{Option, Some, None, refl, ap, sym, ◌∙◌}
use Rattle.std.specs.Prelude.{Result, Ok, Err}
use Rattle.model.specs.declared.steps.Actor.TheVariants.{Worker}
use Rattle.model.specs.declared.steps.Step.{Step}
use Rattle.model.specs.declared.steps.Answer.{Answer}
use Rattle.model.specs.declared.steps.Refusal.{Refusal}
use Rattle.model.specs.Scans.{next_drain}
use Rattle.cycle.specs.Books.{BookState, BookOutcome, Reply, act_outcome}
use Rattle.cycle.specs.Loads.{Told, tell, step_then, behind, Says}
use Rattle.cycle.specs.Drains.{drain_step, drain_within, verdict}
use Rattle.cycle.proofs.WholeLoads.{accepted, refused, step_ok, step_err, nothing_more}

-- ---- one step

pub drained_next : (k n : ℕ) (b : BookState) (w : ℕ) (o : Option Step) → k ≡ suc n → next_drain b.heap w ≡ o
    → drain_within k b w ≡ drain_step b w o (λ c. drain_within n c w)
unfolding drain_within
drained_next k n b w o e next = rw (e, next) refl

drained_last : (k : ℕ) (b : BookState) (w : ℕ) → k ≡ 0 → drain_within k b w ≡ tell b []
unfolding drain_within
drained_last k b w e = rw e refl

verdict_ok : (b c : BookState) (o : BookOutcome) (a : Answer) (next : BookState → Answer → Told) → o ≡ Ok (c, a)
    → verdict (step_then b o next).replies ≡ verdict (next c a).replies
unfolding step_then
verdict_ok b c o a next e = rw e refl

verdict_err : (b : BookState) (o : BookOutcome) (e : Refusal) (next : BookState → Answer → Told) → o ≡ Err e
    → verdict (step_then b o next).replies ≡ Err e
unfolding step_then
verdict_err b o e next is = rw is refl

-- ---- the remaining steps

-- the remaining steps of a drain, after replies, lead to all of it and to its end
pub record IsLeft (rs : List Reply) (k : ℕ) (b : BookState) (w : ℕ) (all : Told) (end : Result Unit Refusal) : Type 0
  where
    pub steps : behind rs (drain_within k b w) ≡ all
    pub end_is : verdict (drain_within k b w).replies ≡ end

-- the drain has come to its end
pub record IsDone (rs : List Reply) (b : BookState) (all : Told) (end now : Result Unit Refusal) : Type 0 where
  pub steps : all ≡ tell b rs
  pub end_is : now ≡ end

-- no step was done
pub left_all : (rs : List Reply) (k : ℕ) (b : BookState) (w : ℕ)
    → IsLeft rs k b w (behind rs (drain_within k b w)) (verdict (drain_within k b w).replies)
left_all rs k b w = record { steps = refl; end_is = refl }

no_steps : (rs : List Reply) (k : ℕ) (b : BookState) (w : ℕ) (all : Told) (end : Result Unit Refusal)
    → IsLeft rs k b w all end → drain_within k b w ≡ tell b [] → IsDone rs b all end (Ok tt)
no_steps rs k b w all end left e = record {
  steps = sym left.steps ∙ ap (behind rs) e ∙ nothing_more b rs;
  end_is = sym (ap (λ (t : Told). verdict t.replies) e) ∙ left.end_is;
}

-- no more steps are allowed
pub left_none : (rs : List Reply) (k : ℕ) (b : BookState) (w : ℕ) (all : Told) (end : Result Unit Refusal)
    → IsLeft rs k b w all end → k ≡ 0 → IsDone rs b all end (Ok tt)
left_none rs k b w all end left e = no_steps rs k b w all end left (drained_last k b w e)

module _
    (rs : List Reply) (k n : ℕ) (b : BookState) (w : ℕ) (all : Told) (end : Result Unit Refusal)
    (left : IsLeft rs k b w all end) (count : k ≡ suc n)
  where
    -- no step is left
    pub left_end : next_drain b.heap w ≡ None → IsDone rs b all end (Ok tt)
    left_end next = no_steps rs k b w all end left (drained_next k n b w None count next)

    -- a step is accepted
    pub left_more : (c : BookState) (step : Step) (reply : Reply) (a : Answer) (more : List Reply)
        → next_drain b.heap w ≡ Some step → reply ≡ Ok a → Says b reply c (act_outcome b (Worker w) step)
        → more ≡ rs ++ reply ∷ [] → IsLeft more n c w all end
    left_more c step reply a more next is says put =
        let o = act_outcome b (Worker w) step in
        let then = λ (d : BookState) (answer : Answer). drain_within n d w in
        let here = drained_next k n b w (Some step) count next in
        record {
          steps = sym (step_ok b c o reply a then rs more (behind more (drain_within n c w)) is says put refl)
              ∙ sym (ap (behind rs) here) ∙ left.steps;
          end_is = sym (verdict_ok b c o a then (accepted b c o reply a is says))
              ∙ sym (ap (λ (t : Told). verdict t.replies) here) ∙ left.end_is;
        }

    -- a step is rejected
    pub left_err : (c : BookState) (step : Step) (reply : Reply) (e : Refusal) (more : List Reply)
        → next_drain b.heap w ≡ Some step → reply ≡ Err e → Says b reply c (act_outcome b (Worker w) step)
        → more ≡ rs ++ reply ∷ [] → IsDone more c all end (Err e)
    left_err c step reply e more next is says put =
        let o = act_outcome b (Worker w) step in
        let then = λ (d : BookState) (answer : Answer). drain_within n d w in
        let here = drained_next k n b w (Some step) count next in
        record {
          steps = sym left.steps ∙ ap (behind rs) here ∙ step_err b c o reply e then rs more is says put;
          end_is = sym (verdict_err b o e then (refused b c o reply e is says).0)
              ∙ sym (ap (λ (t : Told). verdict t.replies) here) ∙ left.end_is;
        }
