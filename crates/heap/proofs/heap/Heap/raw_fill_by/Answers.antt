use Rattle.std.proofs.Common.{◌∙◌, ap, subst, sym}
use Rattle.model.specs.Holding.{IsHeap}
use Rattle.page.specs.Filling.{runs_of}
use Rattle.page_rows.specs.Starting.{AreSmall}
use Rattle.heap.specs.Filling.{AreRunsTo, with_runs}
use Rattle.page_rows.specs.Starting.{by_runs, run_noted}
use Rattle.heap.specs.Views.{heap_of}
use Rattle.heap.proofs.Filled.{all_go_to, all_have_entries, all_small, filled_heap, runs_done}
use Rattle.page_rows.proofs.Starts.{same_entries, same_runs}
use Rattle.heap.proofs.heap.Heap.raw_fill_by.Goals as goal

pub note_targets-requires-clause-small : goal.note_targets-requires-clause-small
note_targets-requires-clause-small g c κs within =
    all_small (heap_of c.self.inside) c.args.targets.now
    (subst (λ h. AreRunsTo h c.args.targets.now) (sym c.self.view_is) c.requires.runs)

pub note_targets-requires-clause-going : goal.note_targets-requires-clause-going
note_targets-requires-clause-going g c κs within =
    all_go_to (heap_of c.self.inside) c.args.targets.now
    (subst (λ h. AreRunsTo h c.args.targets.now) (sym c.self.view_is) c.requires.runs)

pub fill_by-requires-after_bounds : goal.fill_by-requires-after_bounds
fill_by-requires-after_bounds g c κs within =
    let h = heap_of c.self.inside in
    same_entries h.sides c.args.targets.now c.note_targets.new.targets c.note_targets.ensures.targets
    (all_have_entries h c.args.targets.now
    (subst (λ x. AreRunsTo x c.args.targets.now) (sym c.self.view_is) c.requires.runs))

pub note_all_copied-requires : goal.note_all_copied-requires
note_all_copied-requires g c =
    subst AreSmall
    (sym (c.fill_by.ensures.runs
    ∙ same_runs c.args.targets.now c.note_targets.new.targets c.note_targets.ensures.targets))
    (all_small (heap_of c.self.inside) c.args.targets.now
    (subst (λ h. AreRunsTo h c.args.targets.now) (sym c.self.view_is) c.requires.runs))

pub invariant_of-self : goal.invariant_of-self
invariant_of-self g c =
    let h = heap_of c.self.inside in
    let runs = subst (λ x. AreRunsTo x c.args.targets.now) (sym c.self.view_is) c.requires.runs in
    subst IsHeap
    (sym (runs_done h c.args.targets.now c.note_targets.new.targets c.fill_by.new.self c.note_targets.new.starts
    c.note_all_copied.new.sides c.law.ensures c.self.invariant runs c.requires.order c.note_targets.ensures.targets
    c.fill_by.ensures.filled c.note_targets.ensures.starts
    (c.note_all_copied.ensures ∙ ap (λ rs. by_runs run_noted rs h.sides) c.fill_by.ensures.runs)))
    (filled_heap h (runs_of c.args.targets.now) c.self.invariant)

pub returns : goal.returns
returns g c =
    let h = heap_of c.self.inside in
    let runs = subst (λ x. AreRunsTo x c.args.targets.now) (sym c.self.view_is) c.requires.runs in
    runs_done h c.args.targets.now c.note_targets.new.targets c.fill_by.new.self c.note_targets.new.starts
    c.note_all_copied.new.sides c.law.ensures c.self.invariant runs c.requires.order c.note_targets.ensures.targets
    c.fill_by.ensures.filled c.note_targets.ensures.starts
    (c.note_all_copied.ensures ∙ ap (λ rs. by_runs run_noted rs h.sides) c.fill_by.ensures.runs)
    ∙ ap (λ x. with_runs x (runs_of c.args.targets.now)) c.self.view_is
