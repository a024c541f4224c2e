use Rattle.std.proofs.Common.{sym, subst}
use Rattle.model.specs.Holding.{AreRising, GoesToPage}
use Rattle.model.specs.Owning.{Each}
use Rattle.model.specs.States.{HeapState}
use Rattle.heap.specs.Views.{heap_of}
use Rattle.heap.proofs.Moving.{side_keeps}
use Rattle.heap.proofs.heap.Heap.raw_set_side.Goals as goal

pub invariant_of-self : goal.invariant_of-self
invariant_of-self c = side_keeps (heap_of c.self.inside) c.put.new.self _ c.args.side c.self.invariant
    (subst (λ (h : HeapState). AreRising h.config.words 0 c.args.side) (sym c.self.view_is) c.requires.rising)
    (subst (λ (h : HeapState). Each c.args.side (GoesToPage h.config)) (sym c.self.view_is) c.requires.places)
    c.put.ensures
