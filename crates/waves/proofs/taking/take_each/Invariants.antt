use Rattle.std.proofs.Common.{◌≡◌, drop}
use Rattle.part_scans.specs.Scans.{all_sent}
use Rattle.waves.specs.Parts.{sent_to}
use Rattle.waves.proofs.taking.take_each.Given as goal

abbrev pub invariant-loop-index : goal.invariant-loop-index
invariant-loop-index l = sent_to l.heap (all_sent (drop l.index l.senders)) ≡ sent_to l.fn.heap (all_sent l.senders)
