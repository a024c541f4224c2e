use Rattle.std.proofs.Common.{sym, subst}
use Rattle.heap.specs.Filling.{AreInOrder, AreRunsTo, with_runs}
use Rattle.page.specs.Filling.{runs_of}
use Rattle.relocate.specs.Many.{CopiesPages}
use Rattle.relocate.proofs.Together.{tiled_copy, tiled_order}
use Rattle.relocate.proofs.many.copy_pages_by.Goals as goal

pub raw_fill_by-requires-clause-runs : goal.raw_fill_by-requires-clause-runs
raw_fill_by-requires-clause-runs g c κs within =
    subst (AreRunsTo c.args.heap.now) (sym c.deref_mut.ensures.value) c.in-Ok.ensures.to

pub raw_fill_by-requires-clause-order : goal.raw_fill_by-requires-clause-order
raw_fill_by-requires-clause-order g c κs within =
    subst (λ ts. AreInOrder (runs_of ts)) (sym c.deref_mut.ensures.value)
    (tiled_order c.args.heap.now.sides c.args.pages.now (runs_of c.in-Ok.targets.items) c.in-Ok.ensures.tiled
    c.requires)

pub returns-clause-copied : goal.returns-clause-copied
returns-clause-copied g c = λ done.
    subst (CopiesPages c.args.worker c.args.heap.now c.args.pages.now) (sym c.raw_fill_by.ensures)
    (subst (λ ts. CopiesPages c.args.worker c.args.heap.now c.args.pages.now (with_runs c.args.heap.now (runs_of ts)))
    (sym c.deref_mut.ensures.value)
    (tiled_copy c.args.heap.now c.args.worker c.args.pages.now (runs_of c.in-Ok.targets.items) c.law.ensures.store
    c.law.ensures.heap c.in-Ok.ensures.tiled (c.may_copy_all.ensures c.if-not-may_copy_all.false)))
