use Rattle.managed.proofs.ManyData.{many_read, many_unread}
use Rattle.managed.proofs.managed.ManagedHeap.get_many.Goals as goal

pub read_run-requires : goal.read_run-requires
read_run-requires c = c.in-Ok.ensures.run.near

pub returns-then-not-read_run-clause-reads : goal.returns-then-not-read_run-clause-reads
returns-then-not-read_run-clause-reads c = many_unread c.self.inside.heap c.args.self.now c.args.thread c.args.object
    c.args.first c.in-Ok.run' c.read_run.new.values _ c.read_run.result c.self.view_is c.in-Ok.ensures.run
    c.read_run.ensures.len c.read_run.ensures.words c.if-not-read_run.true

pub returns-clause-reads : goal.returns-clause-reads
returns-clause-reads c = many_read c.self.inside.heap c.args.self.now c.args.thread c.args.object c.args.first
    c.in-Ok.run' c.read_run.new.values _ c.read_run.result c.self.view_is c.in-Ok.ensures.run c.read_run.ensures.len
    c.read_run.ensures.words c.if-not-read_run.false
