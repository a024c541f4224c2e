use Rattle.std.proofs.Common.{arith}
use Rattle.part_scans.specs.Scans.{all_taken}
use Rattle.part_scans.proofs.Taken.{taken_next, taken_last}
use Rattle.part_scans.proofs.taking.take_notes.Goals as goal

pub loop-index-preserved : goal.loop-index-preserved
loop-index-preserved c =
    taken_next c.args.scene.now c.args.first c.loop-index.pages c.take_note.new.pages
    (all_taken c.args.scene.now c.args.first c.args.pages.now c.args.notes.now) c.args.notes.now c.loop-index.index
    c.index-notes-index.result c.loop-index.invariant (omega (arith, c.loop-index-test.true)) c.index-notes-index.is
    c.take_note.ensures

pub returns : goal.returns
returns c = taken_last c.args.scene.now c.args.first c.loop-index.pages
    (all_taken c.args.scene.now c.args.first c.args.pages.now c.args.notes.now) c.args.notes.now c.loop-index.index
    c.loop-index.invariant (omega (arith, c.loop-index-test.false))
