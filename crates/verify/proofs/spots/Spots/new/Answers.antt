use Rattle.std.proofs.Common.{◌≡◌, ◌∙◌, ◌+◌, ◌∷◌, ◌++◌, [], sym, ap, subst, arith}
use Rattle.verify.specs.Images.{ImageData}
use Rattle.verify.proofs.Spotting.{spots_length, spot_read}
use Rattle.verify.proofs.Starting.{AreCovered, covered_more, covered_head, covered_on}
use Rattle.verify.proofs.spots.Spots.new.Goals as goal

pub page_spots-requires-clause-base : goal.page_spots-requires-clause-base
page_spots-requires-clause-base c =
    covered_head c.args.image.now c.loop-base.pages.items c.loop-base.base c.requires.sized c.loop-base.invariant

pub loop-base-preserved : goal.loop-base-preserved
loop-base-preserved c =
    let i = c.args.image.now in
    let q = c.in_ok-page_spots.field-0 in
    let more = covered_more i c.loop-base.pages.items c.loop-base.base q c.loop-base.invariant
    c.in_ok-page_spots.ensures.short c.in_ok-page_spots.ensures.each in
    let words : c.from.result ≡ i.words = c.from.ensures ∙ ap (λ (j : ImageData). j.words) c.image.view_is in
    let base : c.loop-base.base + i.words ≡ c.loop-base.base + c.from.result = omega (arith, words) in
    subst (λ ps. AreCovered i ps (c.loop-base.base + c.from.result)) (sym c.in_ok-push.ensures.items)
    (subst (AreCovered i (c.loop-base.pages.items ++ q ∷ [])) base more)

pub returns-clause-len : goal.returns-clause-len
returns-clause-len c =
    spots_length c.image.inside.words c.space-count.result c.loop-base.pages.items ∙ c.space-count.ensures.value

pub returns-clause-each : goal.returns-clause-each
returns-clause-each c = λ a l.
    let i = c.args.image.now in
    let words : c.image.inside.words ≡ i.words = ap (λ (j : ImageData). j.words) c.image.view_is in
    spot_read c.image.inside.words c.space-count.result c.loop-base.pages.items a
    (omega (arith, l, c.space-count.ensures.value))
    ∙ covered_on i c.loop-base.pages.items c.loop-base.base c.image.inside.words a c.loop-base.invariant words
    (omega (arith, l, c.loop-base-test.false, c.space-count.ensures.value))
