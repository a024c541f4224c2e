use Rattle.std.proofs.Common.{◌-◌, ◌+◌, ◌≤◌, ◌∙◌, refl, sym, ap, subst, arith, length}
use Rattle.model.specs.Bits.{of_page}
use Rattle.model.specs.Holding.{IsHeap}
use Rattle.model.specs.States.{HeapState}
use Rattle.page_rows.specs.Runs.{GoTo}
use Rattle.heap.specs.Runs.{with_entries}
use Rattle.heap.specs.Views.{heap_of}
use Rattle.heap.proofs.Runs.{run_done, entries_none, entries_keep, side_there, no_side}
use Rattle.heap.proofs.heap.Heap.raw_copy_run_by.Goals as goal

pub returns-in_default : goal.returns-in_default
returns-in_default g c =
    let old : HeapState = heap_of c.self.inside in
    entries_none c.args.self.now c.args.page c.args.first c.args.count
    (no_side old.sides c.args.page (c.args.page - 1) c.args.first c.args.count c.if-page-eq0.false refl
    c.in_default.ensures
    (subst (λ (h : HeapState). c.args.first + c.args.count ≤ length (of_page h.sides c.args.page)) (sym c.self.view_is)
    c.requires.within))

pub copy_entries_by-requires-clause-within : goal.copy_entries_by-requires-clause-within
copy_entries_by-requires-clause-within g c =
    let old : HeapState = heap_of c.self.inside in
    let is = side_there old.sides c.args.page (c.args.page - 1) c.in-Some.side.now c.if-page-eq0.false refl
    c.in-Some.ensures in
    omega (
      arith,
      ap length is,
      subst (λ (h : HeapState). c.args.first + c.args.count ≤ length (of_page h.sides c.args.page)) (sym c.self.view_is)
          c.requires.within,
    )

pub note_copies-requires : goal.note_copies-requires
note_copies-requires g c =
    let old : HeapState = heap_of c.self.inside in
    let is = side_there old.sides c.args.page (c.args.page - 1) c.in-Some.side.now c.if-page-eq0.false refl
    c.in-Some.ensures in
    omega (
      arith,
      ap length is,
      c.len-entries.ensures.value,
      c.len-entries.ensures.range,
      subst (λ (h : HeapState). c.args.first + c.args.count ≤ length (of_page h.sides c.args.page)) (sym c.self.view_is)
          c.requires.within,
    )

pub invariant_of-self : goal.invariant_of-self
invariant_of-self g c =
    let old : HeapState = heap_of c.self.inside in
    let is = side_there old.sides c.args.page (c.args.page - 1) c.in-Some.side.now c.if-page-eq0.false refl
    c.in-Some.ensures in
    let to = subst (λ (h : HeapState). GoTo h.store.words c.args.target (of_page h.sides c.args.page) c.args.first
    c.args.count) (sym c.self.view_is) c.requires.together in
    subst IsHeap (sym (run_done old c.args.page c.args.target c.args.first c.args.count _ c.in-Some.side.now
    c.copy_entries_by.new.self c.note_copies.new.starts c.note_copies.new.sides c.law.ensures c.self.invariant is
    c.copy_entries_by.ensures refl c.note_copies.ensures to))
    (entries_keep old c.args.page c.args.first c.args.count c.self.invariant)

pub returns : goal.returns
returns g c =
    let old : HeapState = heap_of c.self.inside in
    let is = side_there old.sides c.args.page (c.args.page - 1) c.in-Some.side.now c.if-page-eq0.false refl
    c.in-Some.ensures in
    let to = subst (λ (h : HeapState). GoTo h.store.words c.args.target (of_page h.sides c.args.page) c.args.first
    c.args.count) (sym c.self.view_is) c.requires.together in
    run_done old c.args.page c.args.target c.args.first c.args.count _ c.in-Some.side.now
    c.copy_entries_by.new.self c.note_copies.new.starts c.note_copies.new.sides c.law.ensures c.self.invariant is
    c.copy_entries_by.ensures refl c.note_copies.ensures to
    ∙ ap (λ h. with_entries h c.args.page c.args.first c.args.count) c.self.view_is
