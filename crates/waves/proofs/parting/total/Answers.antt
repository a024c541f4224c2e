use Rattle.std.proofs.Common.{◌+◌, ◌≤◌, ◌<◌, arith, length, subst, sym}
use Rattle.page.specs.declared.owned.Part.{Part}
use Rattle.waves.specs.Parts.{all_scanned_in}
use Rattle.waves.proofs.Building.{few_at, sum_next, times_next, times_within}
use Rattle.waves.proofs.parting.total.Goals as goal

pub overflow_add-done : goal.overflow_add-done
overflow_add-done c =
    let within : c.loop-index.index < length c.args.parts.now = omega (arith, c.loop-index-test.true) in
    let here = subst (λ (p : Part). p.scanned ≤ c.args.each) (sym c.index-parts-index.is)
    (few_at c.args.each c.loop-index.index c.args.parts.now c.index-parts-index.result c.requires.few within) in
    let next = times_next c.loop-index.index c.args.each c.loop-index.done c.loop-index.invariant.1
    c.index-parts-index.result.scanned here in
    let all = times_within (c.loop-index.index + 1) (length c.args.parts.now) c.args.each (omega (arith, within)) in
    omega (arith, next, all, c.requires.fits)

pub loop-index-preserved : goal.loop-index-preserved
loop-index-preserved c =
    let within : c.loop-index.index < length c.args.parts.now = omega (arith, c.loop-index-test.true) in
    let here = subst (λ (p : Part). p.scanned ≤ c.args.each) (sym c.index-parts-index.is)
    (few_at c.args.each c.loop-index.index c.args.parts.now c.index-parts-index.result c.requires.few within) in (
      sum_next c.args.parts.now c.loop-index.index c.loop-index.done (all_scanned_in c.args.parts.now)
          c.index-parts-index.result c.loop-index.invariant.0 within c.index-parts-index.is,
      times_next c.loop-index.index c.args.each c.loop-index.done c.loop-index.invariant.1
          c.index-parts-index.result.scanned here,
    )
