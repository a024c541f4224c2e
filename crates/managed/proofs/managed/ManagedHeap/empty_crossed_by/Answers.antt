use Rattle.std.proofs.Common.{subst, sym}
use Rattle.managed.specs.Emptying.{EndsPages}
use Rattle.managed.proofs.Ahead.{crossed_after, ends_after}
use Rattle.managed.proofs.managed.ManagedHeap.empty_crossed_by.Goals as goal

pub empty_crossed-ended-requires : goal.empty_crossed-ended-requires
empty_crossed-ended-requires g c =
    crossed_after c.args.worker c.args.self.now c.copy.new.heap c.copy.ensures c.requires.crossed

pub returns-clause-ends : goal.returns-clause-ends
returns-clause-ends g c =
    subst (EndsPages c.args.worker c.args.self.now c.args.pages.now c.empty_crossed-ended.result) (sym c.clear.ensures)
    (ends_after c.args.worker c.args.self.now c.copy.new.heap c.empty_crossed-ended.new.self c.args.pages.now
    c.empty_crossed-ended.result c.copy.ensures c.empty_crossed-ended.ensures.ends)
