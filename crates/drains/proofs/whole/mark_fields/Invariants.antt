use Rattle.std.proofs.Common.{◌≡◌, ◌-◌, reverse}
use Rattle.heap.specs.AtOnce.{IsOnFrame}
use Rattle.drains.specs.Drains.{marked_fields}
use Rattle.drains.specs.Waiting.{all_noted, WaitBeside}
use Rattle.drains.proofs.whole.mark_fields.Given as goal

abbrev pub invariant-loop-index : goal.invariant-loop-index
invariant-loop-index l =
    (marked_fields (all_noted l.fn.heap (reverse l.fn.waiting.items)) l.fn.address 0 l.fn.refs
    ≡ marked_fields (all_noted l.heap (reverse l.waiting.items)) l.fn.address l.index (l.fn.refs - l.index))
    × WaitBeside l.heap l.fn.address (reverse l.waiting.items)
    × IsOnFrame l.heap l.fn.address l.fn.frame
