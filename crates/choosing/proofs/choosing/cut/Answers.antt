use Rattle.std.proofs.Common.{arith, map}
use Rattle.choosing.specs.Choices.{page_of}
use Rattle.choosing.proofs.Cuts.{goes_on, is_cut, is_whole, page_next}
use Rattle.choosing.proofs.Sums.{words_next}
use Rattle.std.proofs.lemmas.List.{length-map}
use Rattle.choosing.proofs.choosing.cut.Goals as goal

pub returns-then-packing-from-clause-pages : goal.returns-then-packing-from-clause-pages
returns-then-packing-from-clause-pages c =
    is_cut c.args.heap.now (map page_of c.args.pages.now) c.loop-index.index _ c.loop-index.chosen.items
    c.loop-index.packing c.pack_page-packing.result c.loop-index.invariant.0
    (page_next c.args.pages.now c.loop-index.index _ c.loop-index-test.true) c.pack_page-packing.ensures.value
    (omega (arith, c.if-packing-from.true, c.from.ensures, c.room-room.ensures))

pub loop-index-preserved : goal.loop-index-preserved
loop-index-preserved c = (
  goes_on c.args.heap.now (map page_of c.args.pages.now) c.loop-index.index _ c.loop-index.chosen.items
      c.push.new.self.items c.loop-index.packing c.pack_page-packing.result c.loop-index.invariant.0
      (page_next c.args.pages.now c.loop-index.index _ c.loop-index-test.true) c.pack_page-packing.ensures.value
      (omega (arith, c.if-packing-from.false, c.from.ensures, c.room-room.ensures)) c.pack_page-packing.ensures.offset
      c.in_ok-push.ensures.items,
  words_next c.args.heap.now _ _ c.loop-index.words _ c.loop-index.chosen.items c.push.new.self.items
      (c.requires c.loop-index.index _ c.loop-index-test.true).2 c.loop-index.invariant.1
      c.saturating_add-words.ensures (c.in_ok-push.ensures.items),
)

pub returns-clause-pages : goal.returns-clause-pages
returns-clause-pages c =
    is_whole c.args.heap.now (map page_of c.args.pages.now) c.loop-index.index c.loop-index.chosen.items
    c.loop-index.packing c.loop-index.invariant.0
    (omega (arith, c.loop-index-test.false, length-map c.args.pages.now page_of))
