use Rattle.std.proofs.Common.{◌∙◌, ap, arith}
use Rattle.part_scans.specs.Scans.{all_sent}
use Rattle.waves.specs.Parts.{sent_to}
use Rattle.waves.proofs.Sent.{parts_next, parts_last}
use Rattle.waves.proofs.taking.take_each.Goals as goal

pub loop-index-preserved : goal.loop-index-preserved
loop-index-preserved c =
    parts_next c.loop-index.heap c.take_notes.new.heap (sent_to c.args.heap.now (all_sent c.args.senders.now))
    c.args.senders.now c.loop-index.index c.index-senders-index.result c.loop-index.invariant
    (omega (arith, c.loop-index-test.true)) c.index-senders-index.is
    (c.take_notes.ensures ∙ ap (sent_to c.loop-index.heap) c.deref.ensures.value)

pub returns : goal.returns
returns c = parts_last c.loop-index.heap (sent_to c.args.heap.now (all_sent c.args.senders.now)) c.args.senders.now
    c.loop-index.index c.loop-index.invariant (omega (arith, c.loop-index-test.false))
