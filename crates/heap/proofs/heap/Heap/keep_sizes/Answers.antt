use Rattle.std.proofs.Common.{◌∙◌, sym, ap, arith}
use Rattle.std.specs.Option.{option_copied}
use Rattle.model.specs.States.{HeapState}
use Rattle.model.proofs.Tables.{row_short}
use Rattle.heap.proofs.heap.Heap.keep_sizes.Goals as goal

pub keep_sizes-requires : goal.keep_sizes-requires
keep_sizes-requires c = omega (
  arith,
  row_short c.self.inside.store c.self.inside.live _ c.in-Some.row.now c.self.invariant.live
      (sym c.get.ensures ∙ ap option_copied c.in-Some.is),
  c.law.ensures.store.sized.words,
  ap (λ (h : HeapState). h.store.words) c.self.view_is,
)
