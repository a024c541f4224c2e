use Rattle.std.proofs.Common.{◌∙◌, ap, arith}
use Rattle.part_scans.specs.Scans.{all_sent, all_taken}
use Rattle.part_scans.proofs.Taken.{parts_next, parts_last}
use Rattle.part_scans.proofs.taking.take_sent.Goals as goal

pub loop-index-preserved : goal.loop-index-preserved
loop-index-preserved c =
    parts_next c.args.scene.now c.args.first c.loop-index.pages c.take_notes.new.pages
    (all_taken c.args.scene.now c.args.first c.args.pages.now (all_sent c.args.senders.now)) c.args.senders.now
    c.loop-index.index c.index-senders-index.result c.loop-index.invariant (omega (arith, c.loop-index-test.true))
    c.index-senders-index.is
    (c.take_notes.ensures ∙ ap (all_taken c.args.scene.now c.args.first c.loop-index.pages) c.deref.ensures.value)

pub returns : goal.returns
returns c = parts_last c.args.scene.now c.args.first c.loop-index.pages
    (all_taken c.args.scene.now c.args.first c.args.pages.now (all_sent c.args.senders.now)) c.args.senders.now
    c.loop-index.index c.loop-index.invariant (omega (arith, c.loop-index-test.false))
