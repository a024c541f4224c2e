use Rattle.std.proofs.Common.{drop}
use Rattle.reporting.specs.Texts.{Leads}
use Rattle.reporting.specs.Lines.{texts_from}
use Rattle.reporting.specs.Reports.{page_line}
use Rattle.reporting.proofs.lines.tell_pages.Given as goal

abbrev pub invariant-loop-index : goal.invariant-loop-index
invariant-loop-index g l = Leads (g.W.Write.contents l.initial.w) (g.W.Write.contents l.w)
    (texts_from (page_line l.heap) l.index (drop l.index l.pages)) (texts_from (page_line l.heap) 0 l.pages)
