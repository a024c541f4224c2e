use Rattle.std.proofs.Common.{arith, map}
use Rattle.std.proofs.lemmas.List.{length-map}
use Rattle.choosing.specs.Choices.{page_of}
use Rattle.choosing.proofs.Cuts.{page_next}
use Rattle.collecting.proofs.Fitted.{fits_all, fits_cut, fits_none, fits_on}
use Rattle.collecting.proofs.chosen.fitting.Goals as goal

pub returns-in_default : goal.returns-in_default
returns-in_default c = fits_none c.args.heap.now c.args.pages.now c.loop-index.index _ c.loop-index.chosen.items
    c.loop-index.packing c.packed_page.result c.law.ensures.store c.loop-index-test.true c.loop-index.invariant
    c.packed_page.ensures c.in_default.is

pub returns-then-behind-from : goal.returns-then-behind-from
returns-then-behind-from c =
    fits_cut c.args.heap.now (map page_of c.args.pages.now) c.loop-index.index _ c.loop-index.chosen.items
    c.loop-index.packing c.in-Some.behind c.packed_page.result c.loop-index.invariant
    (page_next c.args.pages.now c.loop-index.index _ c.loop-index-test.true) c.packed_page.ensures c.in-Some.is
    (omega (arith, c.if-behind-from.true, c.from.ensures, c.room-room.ensures))

pub loop-index-preserved : goal.loop-index-preserved
loop-index-preserved c =
    fits_on c.args.heap.now (map page_of c.args.pages.now) c.loop-index.index _ c.loop-index.chosen.items
    c.push.new.self.items c.loop-index.packing c.in-Some.behind c.packed_page.result c.law.ensures.heap
    c.loop-index.invariant
    (page_next c.args.pages.now c.loop-index.index _ c.loop-index-test.true) c.packed_page.ensures c.in-Some.is
    (omega (arith, c.if-behind-from.false, c.from.ensures, c.room-room.ensures)) c.in_ok-push.ensures.items

pub returns : goal.returns
returns c =
    fits_all c.args.heap.now (map page_of c.args.pages.now) c.loop-index.index c.loop-index.chosen.items
    c.loop-index.packing c.loop-index.invariant
    (omega (arith, c.loop-index-test.false, length-map c.args.pages.now page_of))
