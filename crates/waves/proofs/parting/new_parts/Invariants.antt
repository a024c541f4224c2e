use Rattle.std.proofs.Common.{◌≤◌}
use Rattle.waves.specs.Parts.{AreJoined, AreNew}
use Rattle.waves.proofs.parting.new_parts.Given as goal

abbrev pub invariant-loop-part : goal.invariant-loop-part
invariant-loop-part l = (l.first ≤ l.used) × AreNew l.first l.parts.items × AreJoined l.first 0 l.parts.items
