use Rattle.std.proofs.Common.{◌∙◌, ap, sym}
use Rattle.tokens.specs.Rows.{KeeperState, TokenState, row_of}
use Rattle.known_registers.specs.Held.{births_held}
use Rattle.known_registers.proofs.Rows.{has_rows, unseen_rows}
use Rattle.known_registers.proofs.desk.leave_own.Goals as goal

pub returns-clause-own : goal.returns-clause-own
returns-clause-own g c = record {
  holds = c.law.ensures;
  registers = has_rows c.args.mutator.now.heap c.seat.inside.seat c.told-token.result.registers
      (ap (row_of (births_held c.args.mutator.now.heap)) (sym c.seat.invariant)
      ∙ sym (ap (λ (t : TokenState). t.registers) c.told-token.ensures.token));
}

pub returns-clause-rows : goal.returns-clause-rows
returns-clause-rows g c = ap (λ (k : KeeperState). k.rows) c.told-token.ensures.keeper
    ∙ sym (unseen_rows c.args.mutator.now.heap c.leave.new.self.heap c.law.ensures.promises c.leave.ensures.same)
