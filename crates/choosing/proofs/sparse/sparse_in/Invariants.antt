use Rattle.std.specs.List.{All}
use Rattle.choosing.specs.Choices.{AreOf}
use Rattle.choosing.specs.Measures.{IsOnPage}
use Rattle.choosing.proofs.sparse.sparse_in.Given as goal

abbrev pub invariant-loop-index : goal.invariant-loop-index
invariant-loop-index l = AreOf l.heap l.percent l.first l.index l.pages.items l.live_words
    × All (IsOnPage l.heap) l.list.items
