use Rattle.std.proofs.Common.{subst}
use Rattle.model.specs.States.{HeapState}
use Rattle.managed.specs.Data.{EndsCopying}
use Rattle.managed.proofs.BulkData.{copied_managed, run_copied}
use Rattle.managed.proofs.managed.ManagedHeap.copy_data.Goals as goal

pub invariant_of-self : goal.invariant_of-self
invariant_of-self c =
    copied_managed c.self.inside.heap c.copy_words.new.heap c.args.thread c.args.target c.args.first c.args.source
    c.args.first_of_source c.args.count c.copy_words.result c.self.invariant
    (run_copied c.self.inside.heap c.law-2.ensures.store c.law-2.ensures.heap c.law.ensures.steps
    c.law.ensures.marks c.law.ensures.phases c.law.ensures.tallies c.args.thread c.args.target c.args.first
    c.args.source c.args.first_of_source c.args.count c.in-Ok.run' c.copy_words.result c.copy_words.new.heap
    c.in-Ok.ensures.run c.copy_words.ensures)

pub returns : goal.returns
returns c =
    subst (λ (x : HeapState). EndsCopying c.args.thread c.args.target c.args.first c.args.source
    c.args.first_of_source c.args.count x c.copy_words.result c.copy_words.new.heap) c.self.view_is
    (run_copied c.self.inside.heap c.law-2.ensures.store c.law-2.ensures.heap c.law.ensures.steps
    c.law.ensures.marks c.law.ensures.phases c.law.ensures.tallies c.args.thread c.args.target c.args.first
    c.args.source c.args.first_of_source c.args.count c.in-Ok.run' c.copy_words.result c.copy_words.new.heap
    c.in-Ok.ensures.run c.copy_words.ensures)
