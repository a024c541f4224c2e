use Rattle.std.proofs.Common.{sym, ap, reverse}
use Rattle.drains.proofs.Waiting.{noted_next_is}
use Rattle.drains.proofs.draining.noted_next.Goals as goal

pub returns : goal.returns
returns c = noted_next_is c.args.heap.now c.note_all.new.heap (reverse c.args.waiting.now.items)
    (reverse c.note_all.new.waiting.items) c.next_todo.result c.note_all.ensures.heap
    (ap reverse c.note_all.ensures.none)
    (sym c.next_todo.ensures.first)
