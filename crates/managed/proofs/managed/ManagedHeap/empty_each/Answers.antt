use Rattle.std.proofs.Common.{arith, refl}
use Rattle.managed.proofs.Emptied.{page_phase, rest_first, rest_more, rest_stops, rest_ends}
use Rattle.managed.proofs.managed.ManagedHeap.empty_each.Goals as goal

pub loop-index-init : goal.loop-index-init
loop-index-init c = record {
  rest = rest_first c.args.worker c.args.self.now c.args.pages.now;
  phase = refl;
}

pub loop-index-preserved : goal.loop-index-preserved
loop-index-preserved c = record {
  rest = rest_more c.args.worker c.args.self.now c.loop-index.self c.empty_page.new.self
      c.args.pages.now c.loop-index.index c.empty_page.result tt (omega (arith, c.loop-index-test.true))
      c.in_default.is c.empty_page.ensures c.loop-index.invariant.rest;
  phase = page_phase c.args.worker c.args.self.now c.loop-index.self c.empty_page.new.self _ c.empty_page.result tt
      c.in_default.is c.empty_page.ensures c.loop-index.invariant.phase;
}

pub returns-in-Err-clause-ends : goal.returns-in-Err-clause-ends
returns-in-Err-clause-ends c = rest_stops c.args.worker c.args.self.now c.loop-index.self c.empty_page.new.self
    c.args.pages.now c.loop-index.index c.empty_page.result c.in-Err.refusal
    (omega (arith, c.loop-index-test.true)) c.in-Err.is c.empty_page.ensures c.loop-index.invariant.rest

pub returns-clause-ends : goal.returns-clause-ends
returns-clause-ends c = rest_ends c.args.worker c.args.self.now c.loop-index.self c.args.pages.now c.loop-index.index
    (omega (arith, c.loop-index-test.false)) c.loop-index.invariant.rest

pub returns-clause-phase : goal.returns-clause-phase
returns-clause-phase c = c.loop-index.invariant.phase
