use Rattle.managed.proofs.Gathering.{scans_drain}
use Rattle.managed.proofs.Prepared.{nothing_scanned}
use Rattle.managed.proofs.managed.ManagedHeap.drain_nothing.Goals as goal

pub unreachable-requires : goal.unreachable-requires
unreachable-requires c = nothing_scanned c.args.worker c.args.self.now c.scan.new.self c.scan.result
    c.in-Ok-false.field-0 c.requires c.in-Ok-false.is c.in-Ok-false.field-0-test c.scan.ensures.far

pub returns-in-Ok-true-clause-goes : goal.returns-in-Ok-true-clause-goes
returns-in-Ok-true-clause-goes c = scans_drain c.args.worker c.args.self.now c.scan.new.self c.scan.ensures.goes

pub returns-in-Err-clause-goes : goal.returns-in-Err-clause-goes
returns-in-Err-clause-goes c = scans_drain c.args.worker c.args.self.now c.scan.new.self c.scan.ensures.goes
