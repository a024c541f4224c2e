use Rattle.std.proofs.Common.{◌∙◌, sym}
use Rattle.known_registers.proofs.Rows.{unseen_rows}
use Rattle.known_registers.proofs.desk.Desk.collect_some.Goals as goal

pub invariant_of-self : goal.invariant_of-self
invariant_of-self g c = c.self.invariant
    ∙ sym (unseen_rows c.self.inside.mutator.heap c.collect_some.new.self.heap c.law.ensures.promises
    c.collect_some.ensures.same)
