use Rattle.std.proofs.Common.{◌≡◌, suc, ◌-◌, ◌+◌, ap, sym, ◌∙◌, arith}
use Rattle.model.specs.declared.steps.Step.TheVariants as steps
use Rattle.cycle.specs.Loads.{Told, behind, heal_load, trap_load}
use Rattle.cycle.proofs.Begun.{trap_goes, none_begun, step_begun, leads_more, same_goes, same_whole}
use Rattle.cycle.proofs.Begun.{at_err, on_err}
use Rattle.cycle.proofs.WholeLoads.{on_ok, trap_err, trap_ok, when_clear, when_due, trapped_last}
use Rattle.cycle.proofs.book.Book.trap_load.Goals as goal

pub returns-in_err-refusal-clause-memory : goal.returns-in_err-refusal-clause-memory
returns-in_err-refusal-clause-memory c =
    let whole = (trap_load 3 c.args.due c.args.self.now c.args.actor).book in
    at_err c.from_residual.result _ (c.loop.invariant.begun c.act_into.new.self c.act_into.new.replies.items
    (none_begun whole c.loop.self c.loop.replies.items c.act_into.new.self c.act_into.new.replies.items
    (same_goes c.loop.self _ whole (ap (λ (t : Told). t.book) c.loop.invariant.steps)
    (trap_goes (3 - c.loop.counter) c.loop.due c.loop.self c.args.actor)) c.in_err-refusal.ensures.same_book
    c.in_err-refusal.ensures.same_replies))

pub returns-in-Err-clause-steps : goal.returns-in-Err-clause-steps
returns-in-Err-clause-steps c =
    let left : 3 - c.loop.counter ≡ suc (3 - (c.loop.counter + 1)) = omega (arith, c.loop-test.true) in
    sym c.loop.invariant.steps
    ∙ trap_err _ _ c.loop.due c.loop.self c.act_into.new.self c.args.actor c.in_ok-refusal.field-0 c.in-Err.refusal
    c.loop.replies.items c.act_into.new.replies.items left c.in-Err.is c.in_ok-refusal.ensures.says
    c.in_ok-refusal.ensures.replies

pub returns-then-is_clear-clause-steps : goal.returns-then-is_clear-clause-steps
returns-then-is_clear-clause-steps c =
    let left : 3 - c.loop.counter ≡ suc (3 - (c.loop.counter + 1)) = omega (arith, c.loop-test.true) in
    on_ok c.heal_load.result _ _ c.heal_load.ensures.steps (λ p.
    sym c.loop.invariant.steps
    ∙ trap_ok _ _ c.loop.due c.loop.self c.act_into.new.self c.args.actor c.in_ok-refusal.field-0 c.in-Ok.answer
    c.loop.replies.items c.act_into.new.replies.items _ left c.in-Ok.is c.in_ok-refusal.ensures.says
    c.in_ok-refusal.ensures.replies
    (when_clear _ c.loop.due c.args.actor c.act_into.new.self c.in-Ok.answer c.is_clear.result c.is_clear.ensures
    c.if-is_clear.true)
    ∙ p)

pub returns-then-is_clear-clause-memory : goal.returns-then-is_clear-clause-memory
returns-then-is_clear-clause-memory c =
    let left : 3 - c.loop.counter ≡ suc (3 - (c.loop.counter + 1)) = omega (arith, c.loop-test.true) in
    let whole = (trap_load 3 c.args.due c.args.self.now c.args.actor).book in
    let rest = (heal_load c.loop.due c.act_into.new.self c.args.actor).book in
    let same : rest ≡ whole = ap (λ (t : Told). t.book)
    (sym (trap_ok _ _ c.loop.due c.loop.self c.act_into.new.self c.args.actor c.in_ok-refusal.field-0 c.in-Ok.answer
    c.loop.replies.items c.act_into.new.replies.items _ left c.in-Ok.is c.in_ok-refusal.ensures.says
    c.in_ok-refusal.ensures.replies
    (when_clear _ c.loop.due c.args.actor c.act_into.new.self c.in-Ok.answer c.is_clear.result c.is_clear.ensures
    c.if-is_clear.true)) ∙ c.loop.invariant.steps) in
    on_err c.heal_load.result _ _ c.heal_load.ensures.memory (λ h.
    c.loop.invariant.begun _ _
    (step_begun whole c.loop.self c.act_into.new.self c.args.actor steps.Trap c.in_ok-refusal.field-0 c.in-Ok.answer
    c.loop.replies.items c.act_into.new.replies.items _ _ c.in-Ok.is c.in_ok-refusal.ensures.says
    c.in_ok-refusal.ensures.replies
    (same_whole whole rest c.act_into.new.self c.act_into.new.replies.items _ _ same h)))

pub loop-preserved : goal.loop-preserved
loop-preserved c =
    let left : 3 - c.loop.counter ≡ suc (3 - (c.loop.counter + 1)) = omega (arith, c.loop-test.true) in
    record {
      steps = sym (trap_ok _ _ c.loop.due c.loop.self c.act_into.new.self c.args.actor c.in_ok-refusal.field-0
          c.in-Ok.answer c.loop.replies.items c.act_into.new.replies.items _ left c.in-Ok.is
          c.in_ok-refusal.ensures.says c.in_ok-refusal.ensures.replies
          (when_due _ c.loop.due c.args.actor c.act_into.new.self c.in-Ok.answer c.is_clear.result c.is_clear.ensures
          c.if-is_clear.false))
          ∙ c.loop.invariant.steps;
      begun = leads_more (trap_load 3 c.args.due c.args.self.now c.args.actor).book c.args.self.now
          c.args.replies.now.items
          c.loop.self c.act_into.new.self c.args.actor steps.Trap c.in_ok-refusal.field-0 c.in-Ok.answer
          c.loop.replies.items c.act_into.new.replies.items c.loop.invariant.begun c.in-Ok.is
          c.in_ok-refusal.ensures.says c.in_ok-refusal.ensures.replies;
    }

pub returns-clause-steps : goal.returns-clause-steps
returns-clause-steps c =
    let none : 3 - c.loop.counter ≡ 0 = omega (arith, c.loop-test.false) in
    on_ok c.heal_load-2.result _ _ c.heal_load-2.ensures.steps (λ p.
    sym c.loop.invariant.steps
    ∙ ap (behind c.loop.replies.items) (trapped_last _ c.loop.due c.loop.self c.args.actor none)
    ∙ p)

pub returns-clause-memory : goal.returns-clause-memory
returns-clause-memory c =
    let none : 3 - c.loop.counter ≡ 0 = omega (arith, c.loop-test.false) in
    let whole = (trap_load 3 c.args.due c.args.self.now c.args.actor).book in
    let rest = (heal_load c.loop.due c.loop.self c.args.actor).book in
    let same : rest ≡ whole = sym (ap (λ (t : Told). t.book)
    (trapped_last _ c.loop.due c.loop.self c.args.actor none)) ∙ ap (λ (t : Told). t.book) c.loop.invariant.steps in
    on_err c.heal_load-2.result _ _ c.heal_load-2.ensures.memory (λ h.
    c.loop.invariant.begun _ _ (same_whole whole rest c.loop.self c.loop.replies.items _ _ same h))
