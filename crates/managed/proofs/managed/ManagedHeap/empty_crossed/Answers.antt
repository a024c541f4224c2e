use Rattle.std.proofs.Common.{◌≡◌}
use Rattle.managed.proofs.Corrected.{crossed_calm, if_ok}
use Rattle.managed.proofs.Emptied.{pages_scrubbed}
use Rattle.managed.proofs.managed.ManagedHeap.empty_crossed.Goals as goal

pub returns-in-Ok-clause-ends : goal.returns-in-Ok-clause-ends
returns-in-Ok-clause-ends c = pages_scrubbed c.args.worker c.args.self.now c.empty_each.new.self c.scrub_all.new.self
    c.args.pages.now c.empty_each.result tt c.in-Ok.is c.empty_each.ensures.ends c.scrub_all.ensures.goes

pub returns-in-Ok-clause-scrubbed : goal.returns-in-Ok-clause-scrubbed
returns-in-Ok-clause-scrubbed c = c.scrub_all.ensures.scrubbed
    (crossed_calm c.args.self.now c.empty_each.new.self _ _ c.law.ensures.holds c.requires
    (if_ok (c.empty_each.new.self.phase ≡ c.args.self.now.phase) c.empty_each.result tt c.in-Ok.is
    c.empty_each.ensures.phase))
