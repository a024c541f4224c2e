use Rattle.std.proofs.Common.{◌∙◌, ap, subst, sym}
use Rattle.part_scans.specs.Scenes.{refs_of}
use Rattle.part_scans.specs.Waiting.{AreWaiting, places_of}
use Rattle.part_scans.proofs.Marked.{left_waits, object_done, object_waits}
use Rattle.part_scans.proofs.objects.scan_object.Goals as goal

pub returns-then-capacity-len-clause-waits : goal.returns-then-capacity-len-clause-waits
returns-then-capacity-len-clause-waits c =
    subst (λ ps. AreWaiting ps (places_of c.args.scene.now c.args.first c.args.waiting.now.items))
    (sym c.grey_at.ensures)
    (left_waits c.args.scene.now c.args.first c.args.index c.args.offset c.args.pages.now c.args.waiting.now.items
    c.requires.waits)

pub returns-then-not-all_lead_on-clause-waits : goal.returns-then-not-all_lead_on-clause-waits
returns-then-not-all_lead_on-clause-waits c =
    subst (λ ps. AreWaiting ps (places_of c.args.scene.now c.args.first c.args.waiting.now.items))
    (sym c.grey_at-then-not-all_lead_on.ensures)
    (left_waits c.args.scene.now c.args.first c.args.index c.args.offset c.args.pages.now c.args.waiting.now.items
    c.requires.waits)

pub returns-clause-scans : goal.returns-clause-scans
returns-clause-scans c = object_done c.args.scene.now c.args.first c.args.index c.args.offset c.refs_of-refs.result
    c.args.pages.now c.mark_words.new.pages c.end_scan.new.pages c.args.waiting.now.items
    c.mark_words.new.waiting.items c.args.sent.now.items c.mark_words.new.sent.items c.requires.waits
    (c.refs_of-refs.ensures.value ∙ ap (refs_of c.args.scene.now) c.word_of.ensures)
    (c.all_lead_on.ensures c.if-not-all_lead_on.false)
    (c.mark_words.ensures (c.args.index, c.args.offset) c.requires.waits) c.end_scan.ensures

pub returns-clause-waits : goal.returns-clause-waits
returns-clause-waits c = object_waits c.args.scene.now c.args.first c.args.index c.args.offset c.refs_of-refs.result
    c.args.pages.now c.mark_words.new.pages c.end_scan.new.pages c.args.waiting.now.items
    c.mark_words.new.waiting.items c.args.sent.now.items c.mark_words.new.sent.items
    (c.mark_words.ensures (c.args.index, c.args.offset) c.requires.waits) c.end_scan.ensures
