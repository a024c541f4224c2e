use Rattle.forward.proofs.Totals.{all_cleared}
use Rattle.forward.proofs.sides.Sides.clear_all.Goals as goal

pub invariant_of-self : goal.invariant_of-self
invariant_of-self c = all_cleared c.self.inside.sides.items c.exchange.new.sides.items c.self.inside.left
    c.self.invariant c.exchange.ensures
