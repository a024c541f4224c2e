use Rattle.std.proofs.Common.{◌≡◌, ◌+◌, ◌-◌}
use Rattle.pieces.specs.Pieces.{source_of, laid_from}
use Rattle.pieces.proofs.copying.copy_entries.Given as goal

abbrev pub invariant-loop-done : goal.invariant-loop-done
invariant-loop-done l = laid_from (source_of l.fn.source) l.fn.base l.fn.first l.fn.count l.fn.target
    ≡ laid_from (source_of l.fn.source) l.fn.base (l.fn.first + l.done) (l.fn.count - l.done) l.target

abbrev pub decreases-loop-done : goal.decreases-loop-done
decreases-loop-done l = l.count - l.done
