use Rattle.managed.proofs.Going.{scans_same}
use Rattle.managed.proofs.managed.ManagedHeap.scan.Goals as goal

pub returns-clause-stands : goal.returns-clause-stands
returns-clause-stands c = scans_same c.args.worker c.args.self.now c.scan_steps.new.self c.scan_steps.ensures.goes
