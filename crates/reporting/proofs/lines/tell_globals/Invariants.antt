use Rattle.std.proofs.Common.{drop}
use Rattle.reporting.specs.Texts.{Leads}
use Rattle.reporting.specs.Lines.{texts_from}
use Rattle.reporting.specs.Reports.{global_line}
use Rattle.reporting.proofs.lines.tell_globals.Given as goal

abbrev pub invariant-loop-number : goal.invariant-loop-number
invariant-loop-number g l = Leads (g.W.Write.contents l.initial.w) (g.W.Write.contents l.w) (texts_from
    (global_line l.words) l.number (drop l.number l.globals)) (texts_from (global_line l.words) 0 l.globals)
