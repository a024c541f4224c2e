use Rattle.std.proofs.Common.{◌∙◌, ap, rules, sym}
use Rattle.portions.specs.Portions.{GoesOn}
use Rattle.known_registers.specs.Knowing.{KnowingState}
use Rattle.known_registers.proofs.Rows.{portion_rows}
use Rattle.known_registers.proofs.desk.run.Goals as goal

pub leave_own-seat-requires : goal.leave_own-seat-requires
leave_own-seat-requires g c =
    let own = c.find_own-seat.ensures.own in
    let m = c.find_own-seat.new.mutator in
    let n = c.f-result.new.arg2 in
    let on : GoesOn m n = c.requires.keeps m n c.f-result.result own (search rules) in
    portion_rows c.find_own-seat.new.keeper.rows m n c.find_own-seat.result.thread c.find_own-seat.ensures.rows own.holds
    (own.begins.thread ∙ ap (λ (s : KnowingState). s.thread) (sym c.find_own-seat.ensures.seat)) on
