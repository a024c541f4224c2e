use Rattle.std.proofs.Common.{◌≡◌, ◌∙◌, ◌+◌, ◌-◌, ap, arith, subst, suc}
use Rattle.std.specs.Prelude.{Ok}
use Rattle.managed.specs.Goings.{IsInBarrier, EndsTrap}
use Rattle.managed.proofs.Clearing.{trap_less, none_left}
use Rattle.managed.proofs.Going.{ends_after, goes_none, goes_then}
use Rattle.managed.proofs.managed.ManagedHeap.end_by_traps.Goals as goal

pub loop-init : goal.loop-init
loop-init c = record {
  goes = goes_none (IsInBarrier c.args.thread) c.args.self.now;
  left = c.three_traps.ensures;
}

pub loop-preserved : goal.loop-preserved
loop-preserved c =
    let more : 3 - c.loop.counter ≡ suc (3 - (c.loop.counter + 1)) = omega (arith, c.loop-test.true) in
    record {
      goes = goes_then (IsInBarrier c.args.thread) c.args.self.now c.loop.self c.trap_is_clear.new.self
          c.loop.invariant.goes c.trap_is_clear.ensures.goes;
      left = trap_less (3 - (c.loop.counter + 1)) (3 - c.loop.counter) c.loop.self c.trap_is_clear.new.self
          c.args.thread c.trap_is_clear.result more c.loop.invariant.left
          (c.in-Ok-false.is ∙ ap Ok c.in-Ok-false.field-0-test) c.trap_is_clear.ensures.ends;
    }

pub finish_read-requires : goal.finish_read-requires
finish_read-requires c = (
  c.loop.self,
  subst (λ b. EndsTrap c.loop.self c.args.thread b c.trap_is_clear.new.self)
      (c.in-Ok-true.is ∙ ap Ok c.in-Ok-true.field-0-test)
      c.trap_is_clear.ensures.ends,
)

pub returns-in-Ok-true : goal.returns-in-Ok-true
returns-in-Ok-true c = ends_after c.args.self.now c.trap_is_clear.new.self c.finish_read.new.self c.args.thread
    c.finish_read.result
    (goes_then (IsInBarrier c.args.thread) c.args.self.now c.loop.self c.trap_is_clear.new.self c.loop.invariant.goes
    c.trap_is_clear.ensures.goes)
    c.finish_read.ensures

pub returns-in-Err : goal.returns-in-Err
returns-in-Err c = (
  goes_then (IsInBarrier c.args.thread) c.args.self.now c.loop.self c.trap_is_clear.new.self c.loop.invariant.goes
      c.trap_is_clear.ensures.goes,
  subst (λ b. EndsTrap c.loop.self c.args.thread b c.trap_is_clear.new.self) c.in-Err.is c.trap_is_clear.ensures.ends,
)

pub unreachable-requires : goal.unreachable-requires
unreachable-requires c =
    let none : 3 - c.loop.counter ≡ 0 = omega (arith, c.loop-test.false) in
    none_left (3 - c.loop.counter) c.loop.self c.args.thread none c.loop.invariant.left
