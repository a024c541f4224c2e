use Rattle.std.proofs.Common.{◌≤◌, ◌+◌, drop}
use Rattle.reporting.specs.Texts.{Leads}
use Rattle.reporting.specs.Reports.{cycles_from}
use Rattle.reporting.proofs.lines.tell_cycles.Given as goal

abbrev pub invariant-loop-index : goal.invariant-loop-index
invariant-loop-index g l = record {
  count : l.number ≤ l.index + 1;
  told : Leads (g.W.Write.contents l.initial.w) (g.W.Write.contents l.w)
      (cycles_from l.number (drop l.index l.history.entries)) (cycles_from 1 l.history.entries);
}
