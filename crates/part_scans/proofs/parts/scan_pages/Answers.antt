use Rattle.std.proofs.Common.{arith, subst, sym, ◌∙◌}
use Rattle.part_scans.specs.Scans.{AreScanned}
use Rattle.part_scans.specs.Waiting.{AreWaiting, all_grey, places_of}
use Rattle.part_scans.proofs.Scanned.{scanned_none, scanned_one, scanned_left}
use Rattle.part_scans.proofs.parts.scan_pages.Goals as goal
use Rattle.part_scans.proofs.parts.scan_pages.Goals.{then-is_some, else-is_some}

pub loop-turn-init : goal.loop-turn-init
loop-turn-init c = (
  omega arith,
  subst (λ ws. AreWaiting c.args.pages.now (places_of c.args.scene.now c.args.first ws)) (sym c.new-waiting.ensures) tt,
  subst (λ ws. AreScanned c.args.scene.now c.args.first 0 c.args.pages.now c.args.sent.now.items
      (all_grey c.args.pages.now (places_of c.args.scene.now c.args.first ws)) c.args.sent.now.items)
      (sym c.new-waiting.ensures)
      (scanned_none c.args.scene.now c.args.first c.args.pages.now c.args.sent.now.items),
)

pub next_place-requires : goal.next_place-requires
next_place-requires c = c.loop-turn.invariant.1

pub loop-turn-preserved : goal.loop-turn-preserved
loop-turn-preserved c = elim c.if-is_some.branch [
  | then-is_some w ↦ (
    omega (arith, w.done-is, c.loop-turn.invariant.0),
    c.scan_object.ensures.waits,
    subst (λ n. AreScanned c.args.scene.now c.args.first n c.args.pages.now c.args.sent.now.items
        (all_grey c.scan_object.new.pages (places_of c.args.scene.now c.args.first c.scan_object.new.waiting.items))
        c.scan_object.new.sent.items) (sym w.done-is)
        (scanned_one c.args.scene.now c.args.first c.loop-turn.done c.in-Some.place.index c.in-Some.place.offset
        c.scan_object.result c.args.pages.now c.args.sent.now.items _ c.loop-turn.sent.items _
        c.scan_object.new.sent.items
        (subst (λ us. AreScanned c.args.scene.now c.args.first c.loop-turn.done c.args.pages.now
        c.args.sent.now.items us c.loop-turn.sent.items) (sym c.in-Some.ensures.next.1) c.loop-turn.invariant.2)
        c.scan_object.ensures.scans (sym c.is_some.ensures ∙ w.if-is_some.true)),
  )
  | else-is_some w ↦ (
    omega (arith, w.done-is, c.loop-turn.invariant.0),
    c.scan_object.ensures.waits,
    subst (λ n. AreScanned c.args.scene.now c.args.first n c.args.pages.now c.args.sent.now.items
        (all_grey c.scan_object.new.pages (places_of c.args.scene.now c.args.first c.scan_object.new.waiting.items))
        c.scan_object.new.sent.items) (sym w.done-is)
        (scanned_left c.args.scene.now c.args.first c.loop-turn.done c.in-Some.place.index c.in-Some.place.offset
        c.scan_object.result c.args.pages.now c.args.sent.now.items _ c.loop-turn.sent.items _
        c.scan_object.new.sent.items
        (subst (λ us. AreScanned c.args.scene.now c.args.first c.loop-turn.done c.args.pages.now
        c.args.sent.now.items us c.loop-turn.sent.items) (sym c.in-Some.ensures.next.1) c.loop-turn.invariant.2)
        c.scan_object.ensures.scans (sym c.is_some.ensures ∙ w.if-is_some.false)),
  )
]

pub returns-clause-scanned : goal.returns-clause-scanned
returns-clause-scanned c = subst (λ us. AreScanned c.args.scene.now c.args.first c.loop-turn.done c.args.pages.now
    c.args.sent.now.items us c.loop-turn.sent.items) (sym c.grey_all.ensures) c.loop-turn.invariant.2
