use Rattle.part_scans.specs.Scans.{AllLeadOn}
use Rattle.part_scans.proofs.objects.all_lead_on.Given as goal

abbrev pub invariant-loop-number : goal.invariant-loop-number
invariant-loop-number l = AllLeadOn l.scene l.pages l.index l.offset l.number
