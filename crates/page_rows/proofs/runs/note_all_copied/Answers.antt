use Rattle.std.proofs.Common.{◌∙◌, ap, arith, subst, sym}
use Rattle.page_rows.specs.Starting.{AreSmall}
use Rattle.page_rows.specs.Starting.{by_runs, run_noted}
use Rattle.page_rows.proofs.Starts.{target_small}
use Rattle.page_rows.proofs.Starts.{target_last, target_next}
use Rattle.page_rows.proofs.runs.note_all_copied.Goals as goal

pub note_copied-requires : goal.note_copied-requires
note_copied-requires c = subst AreSmall (ap (λ t. t.runs.items) (sym c.index-targets-index.is) ∙ sym c.deref.ensures.value)
    (target_small c.args.targets.now c.loop-index.index _ c.requires (omega (arith, c.loop-index-test.true)))

pub loop-index-preserved : goal.loop-index-preserved
loop-index-preserved c =
    target_next run_noted c.loop-index.sides c.note_copied.new.sides _ c.args.targets.now c.loop-index.index
    c.index-targets-index.result c.loop-index.invariant (omega (arith, c.loop-index-test.true))
    (c.note_copied.ensures
    ∙ ap (λ rs. by_runs run_noted rs c.loop-index.sides)
    (c.deref.ensures.value ∙ ap (λ t. t.runs.items) c.index-targets-index.is))

pub returns : goal.returns
returns c = target_last run_noted c.loop-index.sides _ c.args.targets.now c.loop-index.index c.loop-index.invariant
    (omega (arith, c.loop-index-test.false))
