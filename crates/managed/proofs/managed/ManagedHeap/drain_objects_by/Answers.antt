use Rattle.std.proofs.Common.{arith}
use Rattle.managed.proofs.Counting.{drain_left, objects_drain}
use Rattle.managed.proofs.managed.ManagedHeap.drain_objects_by.Goals as goal

pub returns-then-scan_objects_by-lt18446744073709551615-clause-goes :
    goal.returns-then-scan_objects_by-lt18446744073709551615-clause-goes
returns-then-scan_objects_by-lt18446744073709551615-clause-goes g c = objects_drain c.args.worker c.scan_objects_by.result
    c.args.self.now c.scan_objects_by.new.self c.scan_objects_by.ensures.objects

pub returns-else-scan_objects_by-lt18446744073709551615-clause-goes :
    goal.returns-else-scan_objects_by-lt18446744073709551615-clause-goes
returns-else-scan_objects_by-lt18446744073709551615-clause-goes g c = objects_drain c.args.worker c.scan_objects_by.result
    c.args.self.now c.scan_objects_by.new.self c.scan_objects_by.ensures.objects

pub returns-else-scan_objects_by-lt18446744073709551615-clause-ends :
    goal.returns-else-scan_objects_by-lt18446744073709551615-clause-ends
returns-else-scan_objects_by-lt18446744073709551615-clause-ends g c = drain_left c.args.worker c.scan_objects_by.result
    c.args.self.now c.scan_objects_by.new.self c.scan_objects_by.ensures.few
    (omega (arith, c.if-scan_objects_by-lt18446744073709551615.false)) c.scan_objects_by.ensures.objects
