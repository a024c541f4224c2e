use Rattle.std.proofs.Common.{◌<◌, ◌∙◌, ap, arith, length, refl}
use Rattle.std.proofs.lemmas.List.{get_or_read}
use Rattle.forward.specs.Bases.{run_on}
use Rattle.forward.proofs.Bases.{put_many, put_next}
use Rattle.forward.proofs.places.put_on.Goals as goal

pub loop-index-preserved : goal.loop-index-preserved
loop-index-preserved c =
    let on = run_on c.args.words c.args.targets.now in
    let old = c.args.runs.now.items in
    let now = c.loop-index.runs.items in
    let l : c.loop-index.index < length old = omega (arith, c.loop-index-test.true, c.len-index-end.ensures) in
    let low : c.loop-index.index < length now =
    omega (arith, l, put_many on old now c.loop-index.index c.loop-index.invariant) in
    put_next on old now c.loop-index.index _ c.index.result.now c.run_on.result l refl c.loop-index.invariant
    (c.run_on.ensures
    ∙ ap on (get_or_read now c.loop-index.index c.index.result.now low c.index.ensures c.index.result.now))
