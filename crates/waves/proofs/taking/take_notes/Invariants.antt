use Rattle.std.proofs.Common.{◌≡◌, drop}
use Rattle.waves.specs.Parts.{sent_to}
use Rattle.waves.proofs.taking.take_notes.Given as goal

abbrev pub invariant-loop-index : goal.invariant-loop-index
invariant-loop-index l = sent_to l.heap (drop l.index l.notes) ≡ sent_to l.fn.heap l.notes
