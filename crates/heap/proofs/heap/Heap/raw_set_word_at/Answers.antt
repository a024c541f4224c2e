use Rattle.std.proofs.Common.{◌+◌}
use Rattle.heap.specs.Views.{heap_of}
use Rattle.heap.proofs.Frames.{written_keeps}
use Rattle.heap.proofs.heap.Heap.raw_set_word_at.Goals as goal

pub invariant_of-self : goal.invariant_of-self
invariant_of-self c = written_keeps (heap_of c.self.inside) c.set_word_on.new.self (c.args.address + c.args.ahead)
    c.args.value c.set_word_on.result c.self.invariant c.set_word_on.ensures
