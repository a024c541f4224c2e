use Rattle.std.proofs.Common.{rules, sym, ◌∙◌}
use Rattle.parser.specs.Reading.{script_in}
use Rattle.parser.specs.Scripts.{IsReadOf}
use Rattle.parser.proofs.SpelledIsRead.{spelled_is_read}
use Rattle.parser.proofs.FirstFault.{first_told}
use Rattle.parser.proofs.Promises.{read_parsed, cycle_first, other_first, read_valid, spelled_read}
use Rattle.parser.proofs.script.parse.Goals as goal

pub returns-in_err-config-clause-only : goal.returns-in_err-config-clause-only
returns-in_err-config-clause-only c =
    λ s valid spells. let h : IsReadOf c.from_residual.result (script_in c.args.bytes.now) = search rules in
    spelled_read c.args.bytes.now c.from_residual.result s h valid spells

pub returns-in_err-config-clause-first : goal.returns-in_err-config-clause-first
returns-in_err-config-clause-first c = let h : IsReadOf c.from_residual.result
    (script_in c.args.bytes.now) = search rules in
    first_told c.args.bytes.now c.from_residual.result h

pub invariant_of-result : goal.invariant_of-result
invariant_of-result c = read_parsed c.args.bytes.now _ c.in_ok-config.ensures c.find_spots.ensures

pub returns-clause-valid : goal.returns-clause-valid
returns-clause-valid c = read_valid c.args.bytes.now _ c.in_ok-config.ensures

pub returns-clause-only : goal.returns-clause-only
returns-clause-only c = λ s valid spells. sym (spelled_is_read c.args.bytes.now s valid spells) ∙ c.in_ok-config.ensures

pub returns-clause-cycle : goal.returns-clause-cycle
returns-clause-cycle c = cycle_first c.args.bytes.now _ c.in_ok-config.ensures c.find_spots.ensures

pub returns-clause-other : goal.returns-clause-other
returns-clause-other c = other_first c.args.bytes.now _ c.in_ok-config.ensures c.find_spots.ensures
