use Rattle.std.proofs.Common.{refl}
use Rattle.managed.proofs.ManyData.{many_written}
use Rattle.managed.proofs.Running.{managed_then}
use Rattle.managed.proofs.managed.ManagedHeap.set_many.Goals as goal

pub write_run-requires : goal.write_run-requires
write_run-requires c = c.in-Ok.ensures.run.near

pub invariant_of-self : goal.invariant_of-self
invariant_of-self c = managed_then c.self.inside.heap c.write_run.new.heap _ c.self.invariant
    (many_written c.self.inside.heap c.self.inside.heap c.write_run.new.heap c.args.thread c.args.object c.args.first
    c.in-Ok.run' c.args.values.now refl c.law-2.ensures.store c.law-2.ensures.heap c.law.ensures.steps
    c.law.ensures.marks c.law.ensures.phases c.law.ensures.tallies c.in-Ok.ensures.run c.write_run.ensures)

pub returns : goal.returns
returns c = many_written c.self.inside.heap c.args.self.now c.write_run.new.heap c.args.thread c.args.object
    c.args.first c.in-Ok.run' c.args.values.now c.self.view_is c.law-2.ensures.store c.law-2.ensures.heap
    c.law.ensures.steps c.law.ensures.marks c.law.ensures.phases c.law.ensures.tallies c.in-Ok.ensures.run
    c.write_run.ensures
