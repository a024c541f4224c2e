use Rattle.std.proofs.Common.{arith}
use Rattle.waves.specs.Parts.{sent_to}
use Rattle.waves.proofs.Sent.{taken_next, taken_last}
use Rattle.waves.proofs.taking.take_notes.Goals as goal

pub loop-index-preserved : goal.loop-index-preserved
loop-index-preserved c =
    taken_next c.loop-index.heap c.take_note.new.heap (sent_to c.args.heap.now c.args.notes.now) c.args.notes.now
    c.loop-index.index c.index-notes-index.result c.loop-index.invariant (omega (arith, c.loop-index-test.true))
    c.index-notes-index.is c.take_note.ensures

pub returns : goal.returns
returns c = taken_last c.loop-index.heap (sent_to c.args.heap.now c.args.notes.now) c.args.notes.now c.loop-index.index
    c.loop-index.invariant (omega (arith, c.loop-index-test.false))
