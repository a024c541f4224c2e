use Rattle.std.proofs.Common.{◌∙◌, ◌<◌, ap, arith}
use Rattle.verify.specs.Images.{ImageData}
use Rattle.verify.proofs.Starting.{page_stays}
use Rattle.verify.proofs.spots.filled.Goals as goal

pub spot_of-requires-clause-page : goal.spot_of-requires-clause-page
spot_of-requires-clause-page c =
    let under : c.loop-offset.offset < c.args.image.now.words =
    omega (
      arith,
      c.loop-offset-test.true,
      c.from-offset-end.ensures,
      ap (λ (i : ImageData). i.words)
          c.image.view_is,
    ) in
    (page_stays c.args.image.now c.args.base c.loop-offset.offset c.requires.base under).0 ∙ c.requires.page

pub spot_of-requires-clause-offset : goal.spot_of-requires-clause-offset
spot_of-requires-clause-offset c =
    let under : c.loop-offset.offset < c.args.image.now.words =
    omega (
      arith,
      c.loop-offset-test.true,
      c.from-offset-end.ensures,
      ap (λ (i : ImageData). i.words)
          c.image.view_is,
    ) in
    (page_stays c.args.image.now c.args.base c.loop-offset.offset c.requires.base under).1
