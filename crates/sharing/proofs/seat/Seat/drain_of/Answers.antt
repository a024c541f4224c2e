use Rattle.std.proofs.Common.{ap, sym, ◌∙◌}
use Rattle.model.specs.States.{HeapState}
use Rattle.model.specs.Scans.{next_drain}
use Rattle.sharing.proofs.Growing.{none_done, one_more}
use Rattle.sharing.proofs.seat.Seat.drain_of.Goals as goal

pub loop-init : goal.loop-init
loop-init c = none_done c.args.worker c.args.self.now c.args.book.now

pub loop-preserved : goal.loop-preserved
loop-preserved c =
    one_more c.loop.counter c.args.worker c.args.self.now c.loop.self c.act.new.self c.args.book.now c.loop.book
    c.act.new.book c.in-Some.step c.act.result c.in_default-act.field-0 c.loop.invariant c.requires
    (ap (λ (h : HeapState). next_drain h c.args.worker) (sym c.heap.ensures) ∙ sym c.next_drain.ensures ∙ c.in-Some.is)
    c.in_default-act.is c.act.ensures.acts c.act.ensures.notes
