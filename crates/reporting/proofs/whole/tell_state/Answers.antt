use Rattle.reporting.specs.Reports.{state_text}
use Rattle.reporting.proofs.Telling.{on_ok, appends_more}
use Rattle.reporting.proofs.whole.tell_state.Goals as goal

pub returns : goal.returns
unfolding state_text
returns g c =
    on_ok c.tell_globals.result _ _ c.tell_globals.ensures (λ a.
    appends_more _ _ _ _ _ c.in_ok-tell_head.ensures (appends_more _ _ _ _ _ c.in_ok-tell_pages.ensures
    (appends_more _ _ _ _ _ c.in_ok-tell_threads.ensures a)))
