use Rattle.std.proofs.Common.{◌-◌, ◌++◌, ◌∙◌, [], ◌∷◌, ap, arith, sym, subst}
use Rattle.std.proofs.lemmas.List.{get_or_default}
use Rattle.heap.specs.Filling.{AreRunsTo, IsRunTo}
use Rattle.page.specs.declared.targets.Target.{Target}
use Rattle.page.specs.Filling.{runs_of}
use Rattle.relocate.proofs.Together.{last_runs, last_to, new_runs, new_to}
use Rattle.relocate.proofs.many.add_run.Goals as goal

pub returns-then-index-page-clause-runs : goal.returns-then-index-page-clause-runs
returns-then-index-page-clause-runs c =
    last_runs c.args.targets.now.items (c.len-count.result - 1) c.index_mut-last.result.now _ c.args.run
    (omega (arith, c.len-count.ensures, c.if-count-gt0.true))
    (c.in_ok-push.ensures.items ∙ ap (λ (t : Target). t.runs.items ++ c.args.run ∷ []) c.index_mut-last.ensures.value)

pub returns-then-index-page-clause-to : goal.returns-then-index-page-clause-to
returns-then-index-page-clause-to c = λ h to here.
    last_to h c.args.targets.now.items (c.len-count.result - 1) c.index_mut-last.result.now _ c.args.run
    (omega (arith, c.len-count.ensures, c.if-count-gt0.true)) to
    (ap (λ (t : Target). t.page) c.index_mut-last.ensures.value)
    (c.in_ok-push.ensures.items ∙ ap (λ (t : Target). t.runs.items ++ c.args.run ∷ []) c.index_mut-last.ensures.value)
    (subst (λ n. IsRunTo h n c.args.run) (sym c.if-index-page.true
    ∙ ap (λ (t : Target). t.page) (c.index.ensures
    ∙ get_or_default c.args.targets.now.items (c.len-count.result - 1) c.index.result.now c.index_mut-last.result.now
    (omega (arith, c.len-count.ensures, c.if-count-gt0.true))
    ∙ sym c.index_mut-last.ensures.value)) here)

pub returns-clause-runs : goal.returns-clause-runs
returns-clause-runs c = ap runs_of c.in_ok-push-3.ensures.items
    ∙ new_runs c.args.targets.now.items _ c.args.run
    (c.in_ok-push-2.ensures.items ∙ ap (λ rs. rs ++ c.args.run ∷ []) c.new-target.ensures.runs)

pub returns-clause-to : goal.returns-clause-to
returns-clause-to c = λ h to here. subst (AreRunsTo h) (sym c.in_ok-push-3.ensures.items)
    (new_to h c.args.targets.now.items _ c.args.run to
    (c.in_ok-push-2.ensures.items ∙ ap (λ rs. rs ++ c.args.run ∷ []) c.new-target.ensures.runs)
    (subst (λ n. IsRunTo h n c.args.run) (sym c.new-target.ensures.page) here))
