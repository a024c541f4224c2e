use Rattle.reporting.specs.Reports.{report_text}
use Rattle.reporting.proofs.Telling.{on_ok, appends_more}
use Rattle.reporting.proofs.whole.report.Goals as goal

pub returns : goal.returns
unfolding report_text
returns g c =
    on_ok c.tell_barriers.result _ _ c.tell_barriers.ensures (λ a.
    appends_more _ _ _ _ _ c.in_ok-tell_state.ensures (appends_more _ _ _ _ _ c.in_ok-tell_cycles.ensures a))
