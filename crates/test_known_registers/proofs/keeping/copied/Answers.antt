use Rattle.std.proofs.Common.{rules, Bool, subst}
use Rattle.std.specs.Prelude.{Result}
use Rattle.model.specs.Saying.{done}
use Rattle.model.specs.declared.steps.Answer.TheVariants as answers
use Rattle.model.specs.declared.steps.Refusal.{Refusal}
use Rattle.model.specs.declared.steps.Step.TheVariants as steps
use Rattle.cycle.specs.Mutating.{ThreadStands}
use Rattle.test_known_registers.proofs.Births.{found_same, if_some}
use Rattle.test_known_registers.proofs.keeping.copied.Goals as goal

pub returns : goal.returns
returns g c low =
    let a = c.with-seat.ensures.did in
    let b = c.with-seat-2.ensures.did in
    let first : ThreadStands done a.0.heap a.0.thread (steps.CopyReg 1 0) c.with-seat.result.1 a.1.heap
    = search rules in
    let second : ThreadStands answers.Truth b.0.heap b.0.thread (steps.Same 0 1) c.with-seat-2.result.1 b.1.heap
    = search rules in
    if_some c.found.result _ _ (λ same is. found_same c.args.seat c.with-seat.result.0 a.0 a.1 b.0 b.1 same low
    a.2 a.3 c.with-seat.ensures.seat
    (subst (λ (r : Result (Unit {0}) Refusal). ThreadStands done a.0.heap a.0.thread (steps.CopyReg 1 0) r a.1.heap)
    is.0 first)
    b.2
    (subst (λ (r : Result Bool Refusal). ThreadStands answers.Truth b.0.heap b.0.thread (steps.Same 0 1) r b.1.heap)
    is.1 second)) c.found.ensures
