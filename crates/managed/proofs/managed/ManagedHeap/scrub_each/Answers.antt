use Rattle.std.proofs.Common.{◌∙◌, ap, arith}
use Rattle.model.specs.declared.config.Config.{Config}
use Rattle.model.specs.Phases.{is_protect_crossing}
use Rattle.model.specs.States.{HeapState}
use Rattle.managed.specs.Goings.{IsScrub}
use Rattle.managed.proofs.Corrected.{each_scrubbed, registers_more}
use Rattle.managed.proofs.Going.{goes_none, goes_then}
use Rattle.managed.proofs.Scrubbed.{scrubs_phase}
use Rattle.managed.proofs.managed.ManagedHeap.scrub_each.Goals as goal

pub loop-register-init : goal.loop-register-init
loop-register-init c = record {
  goes = goes_none IsScrub c.args.self.now;
  scrubbed = λ open_now r l. absurd (omega (arith, l));
}

pub loop-register-preserved : goal.loop-register-preserved
loop-register-preserved c = record {
  goes = goes_then IsScrub c.args.self.now c.loop-register.self c.scrub_one.new.self c.loop-register.invariant.goes
      c.scrub_one.ensures.goes;
  scrubbed = λ phase.
      registers_more c.loop-register.self c.scrub_one.new.self c.args.thread c.loop-register.register
      c.scrub_one.ensures.goes (c.loop-register.invariant.scrubbed phase)
      (c.scrub_one.ensures.scrubbed
      (ap is_protect_crossing (scrubs_phase c.args.self.now c.loop-register.self c.loop-register.invariant.goes)
      ∙ phase));
}

pub returns-clause-goes : goal.returns-clause-goes
returns-clause-goes c = c.loop-register.invariant.goes

pub returns-clause-scrubbed : goal.returns-clause-scrubbed
returns-clause-scrubbed c = λ phase.
    each_scrubbed c.args.self.now c.loop-register.self _ _ c.args.thread c.config.result.now.registers
    c.law.ensures.holds
    (ap (λ (k : Config). k.registers) c.config.ensures ∙ ap (λ (h : HeapState). h.config.registers) c.heap.ensures)
    c.loop-register.invariant.goes
    (λ r l. c.loop-register.invariant.scrubbed phase r
    (omega (arith, l, c.loop-register-test.false)))
