use Rattle.std.proofs.Common.{◌∙◌, ap, arith, subst, sym}
use Rattle.page_rows.specs.Starting.{AreSmall}
use Rattle.page_rows.specs.Starting.{by_runs, run_started}
use Rattle.page_rows.proofs.Starts.{target_small}
use Rattle.page_rows.proofs.Starts.{target_last, target_next}
use Rattle.page_rows.proofs.starting.note_each.Goals as goal

pub note_runs-requires : goal.note_runs-requires
note_runs-requires c = subst AreSmall (ap (λ t. t.runs.items) (sym c.index-targets-index.is) ∙ sym c.deref.ensures.value)
    (target_small c.args.targets.now c.loop-index.index _ c.requires (omega (arith, c.loop-index-test.true)))

pub loop-index-preserved : goal.loop-index-preserved
loop-index-preserved c =
    target_next (run_started c.args.store.now.words c.args.sides.now) c.loop-index.starts c.note_runs.new.starts _
    c.args.targets.now c.loop-index.index c.index-targets-index.result c.loop-index.invariant
    (omega (arith, c.loop-index-test.true))
    (c.note_runs.ensures
    ∙ ap (λ rs. by_runs (run_started c.args.store.now.words c.args.sides.now) rs c.loop-index.starts)
    (c.deref.ensures.value ∙ ap (λ t. t.runs.items) c.index-targets-index.is))

pub returns : goal.returns
returns c = target_last (run_started c.args.store.now.words c.args.sides.now) c.loop-index.starts _ c.args.targets.now
    c.loop-index.index c.loop-index.invariant (omega (arith, c.loop-index-test.false))
