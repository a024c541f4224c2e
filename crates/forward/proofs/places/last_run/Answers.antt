use Rattle.std.proofs.Common.{◌≡◌, ◌-◌, ◌∙◌, ap, arith, length, suc, sym, Some}
use Rattle.std.proofs.lemmas.Option.{slice_get-get_or}
use Rattle.forward.proofs.Bases.{some_last}
use Rattle.forward.proofs.places.last_run.Goals as goal

pub returns : goal.returns
returns c =
    let rs = c.args.more.now.items in
    let k = c.len-count.result - 1 in
    let many : length rs ≡ suc k = omega (arith, c.len-count.ensures, c.if-count-eq0.false) in
    some_last c.args.base rs c.index.result.now k many
    (slice_get-get_or rs k c.index.result.now (omega (arith, many)) ∙ ap Some (sym c.index.ensures))
