use Rattle.std.proofs.Common.{◌∙◌, ap, arith}
use Rattle.model.specs.declared.config.Config.{Config}
use Rattle.model.specs.Phases.{is_protect_crossing}
use Rattle.model.specs.States.{HeapState}
use Rattle.managed.specs.Goings.{IsScrub}
use Rattle.managed.proofs.Corrected.{all_scrubbed, threads_more}
use Rattle.managed.proofs.Going.{goes_none, goes_then}
use Rattle.managed.proofs.Scrubbed.{scrubs_phase}
use Rattle.managed.proofs.managed.ManagedHeap.scrub_threads.Goals as goal

pub loop-thread-init : goal.loop-thread-init
loop-thread-init c = record {
  goes = goes_none IsScrub c.args.self.now;
  scrubbed = λ open_now t l r. absurd (omega (arith, l));
}

pub loop-thread-preserved : goal.loop-thread-preserved
loop-thread-preserved c = record {
  goes = goes_then IsScrub c.args.self.now c.loop-thread.self c.scrub_each.new.self c.loop-thread.invariant.goes
      c.scrub_each.ensures.goes;
  scrubbed = λ phase.
      threads_more c.loop-thread.self c.scrub_each.new.self c.loop-thread.thread c.scrub_each.ensures.goes
      (c.loop-thread.invariant.scrubbed phase)
      (c.scrub_each.ensures.scrubbed
      (ap is_protect_crossing (scrubs_phase c.args.self.now c.loop-thread.self c.loop-thread.invariant.goes)
      ∙ phase));
}

pub returns-clause-goes : goal.returns-clause-goes
returns-clause-goes c = c.loop-thread.invariant.goes

pub returns-clause-scrubbed : goal.returns-clause-scrubbed
returns-clause-scrubbed c = λ phase.
    all_scrubbed c.args.self.now c.loop-thread.self _ _ c.config.result.now.threads
    c.law.ensures.holds
    (ap (λ (k : Config). k.threads) c.config.ensures ∙ ap (λ (h : HeapState). h.config.threads) c.heap.ensures)
    c.loop-thread.invariant.goes
    (λ t l r. c.loop-thread.invariant.scrubbed phase t
    (omega (arith, l, c.loop-thread-test.false)) r)
