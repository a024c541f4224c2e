use Rattle.std.proofs.Common.{◌≡◌, drop}
use Rattle.part_scans.specs.Scans.{all_sent, all_taken}
use Rattle.part_scans.proofs.taking.take_sent.Given as goal

abbrev pub invariant-loop-index : goal.invariant-loop-index
invariant-loop-index l = all_taken l.scene l.first l.pages (all_sent (drop l.index l.senders))
    ≡ all_taken l.scene l.first l.fn.pages (all_sent l.senders)
