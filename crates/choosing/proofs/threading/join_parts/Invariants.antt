use Rattle.choosing.specs.Choices.{AreOf}
use Rattle.choosing.specs.Parts.{end_of}
use Rattle.choosing.proofs.threading.join_parts.Given as goal

abbrev pub invariant-loop-index : goal.invariant-loop-index
invariant-loop-index l =
    AreOf l.heap l.percent 0 (end_of l.heap.store.count l.size l.index) l.found.pages.items l.found.live_words
