use Rattle.std.proofs.Common.{ℕ, List, subst}
use Rattle.std.specs.Prelude.{Ok}
use Rattle.collecting.specs.Parts.{EndsProtecting}
use Rattle.collecting.proofs.Staged.{protect_ends}
use Rattle.collecting.proofs.portions.protect.Goals as goal

pub returns-in-Ok : goal.returns-in-Ok
returns-in-Ok c = subst (λ (ns : List ℕ). EndsProtecting c.args.heap.now ns (Ok tt) c.step.new.self) c.new.ensures
    (protect_ends c.args.heap.now c.step.new.self c.new.result c.step.result c.in-Ok.field-0 c.in-Ok.is
    c.step.ensures.does c.step.ensures.stands)
