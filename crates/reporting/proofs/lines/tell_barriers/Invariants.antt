use Rattle.std.proofs.Common.{drop}
use Rattle.reporting.specs.Texts.{Leads}
use Rattle.reporting.specs.Lines.{texts_from}
use Rattle.reporting.specs.Reports.{barrier_line}
use Rattle.reporting.proofs.lines.tell_barriers.Given as goal

abbrev pub invariant-loop-number : goal.invariant-loop-number
invariant-loop-number g l = Leads (g.W.Write.contents l.initial.w) (g.W.Write.contents l.w) (texts_from
    barrier_line l.number (drop l.number l.threads)) (texts_from barrier_line 0 l.threads)
