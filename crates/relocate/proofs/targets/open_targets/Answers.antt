use Rattle.std.proofs.Common.{◌+◌, sym, subst, arith}
use Rattle.relocate.proofs.Opening.{HasOpened, IsLeft, one_opened, one_taken, some_left}
use Rattle.relocate.proofs.targets.open_targets.Goals as goal

pub take_blank-blank-requires : goal.take_blank-blank-requires
take_blank-blank-requires c =
    some_left c.loop.heap.store.words c.args.count c.loop.counter c.loop.memory.items c.loop.invariant.blank
    c.loop-test.true

pub open_next-page-requires-clause-blank : goal.open_next-page-requires-clause-blank
open_next-page-requires-clause-blank c =
    (one_taken c.loop.heap.store.words c.args.count c.loop.counter c.loop.memory.items
    c.take_blank-blank.new.memory.items c.take_blank-blank.result c.loop.invariant.blank c.loop-test.true
    c.take_blank-blank.ensures).0

pub loop-preserved : goal.loop-preserved
loop-preserved c =
    let e = c.open_next-page.ensures in
    record {
      opened = subst (HasOpened c.args.heap.now c.open_next-page.new.heap c.args.count (c.loop.counter + 1))
          (sym c.add.ensures.added)
          (one_opened c.args.heap.now c.loop.heap c.open_next-page.new.heap c.args.count c.loop.counter
          c.open_next-page.result c.loop.targets.items c.loop.invariant.opened c.loop-test.true e.first e.frames
          e.pages e.low e.high e.stays);
      room = omega (arith, c.loop.invariant.room, c.add.ensures.room);
      blank = subst (λ w. IsLeft w c.args.count (c.loop.counter + 1) c.take_blank-blank.new.memory.items)
          (sym e.stays.words)
          (one_taken c.loop.heap.store.words c.args.count c.loop.counter c.loop.memory.items
          c.take_blank-blank.new.memory.items c.take_blank-blank.result c.loop.invariant.blank c.loop-test.true
          c.take_blank-blank.ensures).1;
    }
