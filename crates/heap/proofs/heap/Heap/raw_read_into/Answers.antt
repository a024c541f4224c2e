use Rattle.std.proofs.Common.{◌∙◌, ap}
use Rattle.model.specs.declared.records.Counter.TheVariants as counters
use Rattle.model.specs.Loads.{with_barrier, with_loaded}
use Rattle.heap.specs.Views.{heap_of}
use Rattle.heap.proofs.LoadedWords.{read_twice, read_keeps}
use Rattle.heap.proofs.heap.Heap.raw_read_into.Goals as goal

pub invariant_of-self : goal.invariant_of-self
invariant_of-self c = read_keeps (heap_of c.self.inside) c.args.thread c.args.target c.args.word c.set_read.new.self
    c.self.invariant (λ b. c.set_read.ensures b)

pub returns : goal.returns
returns c = λ b.
    read_twice (heap_of c.self.inside) c.args.thread c.args.target c.args.word b c.set_read.new.self
    (c.set_read.ensures b)
    ∙ ap (λ g. with_loaded (with_barrier g c.args.thread b counters.Loads) c.args.thread c.args.target c.args.word)
    c.self.view_is
