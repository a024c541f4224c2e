use Rattle.std.proofs.Common.{◌∙◌, ap, sym}
use Rattle.tokens.specs.Rows.{KeeperState}
use Rattle.known_registers.proofs.Rows.{finds_own, unseen_rows}
use Rattle.known_registers.proofs.desk.find_own.Goals as goal

pub returns-clause-own : goal.returns-clause-own
returns-clause-own g c = finds_own c.seat.inside.seat c.seat.inside.token c.args.seat c.args.keeper.now.rows
    c.args.mutator.now.heap c.enter.new.self c.seat.view_is c.seat.invariant c.requires c.law.ensures.promises
    c.enter.ensures.same c.find-token.ensures.found c.enter.ensures.begins c.enter.ensures.holds

pub returns-clause-rows : goal.returns-clause-rows
returns-clause-rows g c = ap (λ (k : KeeperState). k.rows) c.find-token.ensures.same.1 ∙ c.requires
    ∙ sym (unseen_rows c.args.mutator.now.heap c.enter.new.self.heap c.law.ensures.promises c.enter.ensures.same)
