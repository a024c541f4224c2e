use Rattle.std.proofs.Common.{◌≡◌, suc, ◌-◌, ◌+◌, ap, sym, ◌∙◌, arith}
use Rattle.model.specs.States.{HeapState}
use Rattle.model.specs.Scans.{next_drain}
use Rattle.model.specs.declared.steps.Actor.TheVariants.{Worker}
use Rattle.cycle.specs.Drains.{drain_within}
use Rattle.cycle.specs.Loads.{Told}
use Rattle.cycle.proofs.Begun.{drain_goes, none_begun, leads_more, same_goes, at_err}
use Rattle.cycle.proofs.WholeDrains.{left_none, left_end, left_more, left_err}
use Rattle.cycle.proofs.book.Book.drain_within.Goals as goal

pub returns-in_default-clause-steps : goal.returns-in_default-clause-steps
returns-in_default-clause-steps c =
    let left : c.args.most - c.loop.counter ≡ suc (c.args.most - (c.loop.counter + 1)) =
    omega (arith, c.loop-test.true) in
    (left_end _ _ _ c.loop.self c.args.worker _ _ c.loop.invariant.left left
    (ap (λ (h : HeapState). next_drain h c.args.worker) (sym c.heap.ensures) ∙ sym c.next_drain.ensures
    ∙ c.in_default.is)).steps

pub returns-in_default-clause-end : goal.returns-in_default-clause-end
returns-in_default-clause-end c =
    let left : c.args.most - c.loop.counter ≡ suc (c.args.most - (c.loop.counter + 1)) =
    omega (arith, c.loop-test.true) in
    (left_end _ _ _ c.loop.self c.args.worker _ _ c.loop.invariant.left left
    (ap (λ (h : HeapState). next_drain h c.args.worker) (sym c.heap.ensures) ∙ sym c.next_drain.ensures
    ∙ c.in_default.is)).end_is

pub returns-in-Err-clause-steps : goal.returns-in-Err-clause-steps
returns-in-Err-clause-steps c =
    let left : c.args.most - c.loop.counter ≡ suc (c.args.most - (c.loop.counter + 1)) =
    omega (arith, c.loop-test.true) in
    (left_err _ _ _ c.loop.self c.args.worker _ _ c.loop.invariant.left left c.act_into.new.self c.in-Some.step
    c.in_ok-refusal.field-0 c.in-Err.refusal c.act_into.new.replies.items
    (ap (λ (h : HeapState). next_drain h c.args.worker) (sym c.heap.ensures) ∙ sym c.next_drain.ensures
    ∙ c.in-Some.is) c.in-Err.is c.in_ok-refusal.ensures.says c.in_ok-refusal.ensures.replies).steps

pub returns-in-Err-clause-end : goal.returns-in-Err-clause-end
returns-in-Err-clause-end c =
    let left : c.args.most - c.loop.counter ≡ suc (c.args.most - (c.loop.counter + 1)) =
    omega (arith, c.loop-test.true) in
    (left_err _ _ _ c.loop.self c.args.worker _ _ c.loop.invariant.left left c.act_into.new.self c.in-Some.step
    c.in_ok-refusal.field-0 c.in-Err.refusal c.act_into.new.replies.items
    (ap (λ (h : HeapState). next_drain h c.args.worker) (sym c.heap.ensures) ∙ sym c.next_drain.ensures
    ∙ c.in-Some.is) c.in-Err.is c.in_ok-refusal.ensures.says c.in_ok-refusal.ensures.replies).end_is

pub loop-preserved : goal.loop-preserved
loop-preserved c =
    let left : c.args.most - c.loop.counter ≡ suc (c.args.most - (c.loop.counter + 1)) =
    omega (arith, c.loop-test.true) in
    record {
      left = left_more _ _ _ c.loop.self c.args.worker _ _ c.loop.invariant.left left c.act_into.new.self c.in-Some.step
          c.in_ok-refusal.field-0 c.in_default-2.field-0 c.act_into.new.replies.items
          (ap (λ (h : HeapState). next_drain h c.args.worker) (sym c.heap.ensures) ∙ sym c.next_drain.ensures
          ∙ c.in-Some.is) c.in_default-2.is c.in_ok-refusal.ensures.says c.in_ok-refusal.ensures.replies;
      begun = leads_more (drain_within c.args.most c.args.self.now c.args.worker).book c.args.self.now
          c.args.replies.now.items c.loop.self c.act_into.new.self (Worker c.args.worker) c.in-Some.step
          c.in_ok-refusal.field-0 c.in_default-2.field-0 c.loop.replies.items c.act_into.new.replies.items
          c.loop.invariant.begun c.in_default-2.is c.in_ok-refusal.ensures.says c.in_ok-refusal.ensures.replies;
    }

pub returns-in_err-refusal-clause-memory : goal.returns-in_err-refusal-clause-memory
returns-in_err-refusal-clause-memory c =
    let whole = (drain_within c.args.most c.args.self.now c.args.worker).book in
    at_err c.from_residual.result _ (c.loop.invariant.begun c.act_into.new.self c.act_into.new.replies.items
    (none_begun whole c.loop.self c.loop.replies.items c.act_into.new.self c.act_into.new.replies.items
    (same_goes c.loop.self _ whole (ap (λ (t : Told). t.book) c.loop.invariant.left.steps)
    (drain_goes (c.args.most - c.loop.counter) c.loop.self c.args.worker)) c.in_err-refusal.ensures.same_book
    c.in_err-refusal.ensures.same_replies))

pub returns-clause-steps : goal.returns-clause-steps
returns-clause-steps c =
    let none : c.args.most - c.loop.counter ≡ 0 = omega (arith, c.loop-test.false) in
    (left_none _ _ c.loop.self c.args.worker _ _ c.loop.invariant.left none).steps

pub returns-clause-end : goal.returns-clause-end
returns-clause-end c =
    let none : c.args.most - c.loop.counter ≡ 0 = omega (arith, c.loop-test.false) in
    (left_none _ _ c.loop.self c.args.worker _ _ c.loop.invariant.left none).end_is
