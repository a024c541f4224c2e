use Rattle.std.proofs.Common.{◌∙◌, ◌+◌, ap, length, subst, sym}
use Rattle.heap.specs.Owning.{AreBlankPages}
use Rattle.waves.proofs.Building.{blank_more, longer}
use Rattle.waves.proofs.parting.blank_pages.Goals as goal

pub loop-page-preserved : goal.loop-page-preserved
loop-page-preserved c = (
  subst AreBlankPages (sym c.in_ok-push.ensures.items)
      (blank_more c.loop-page.pages.items c.empty.result c.loop-page.invariant.0 c.empty.ensures.frame
      c.empty.ensures.marked c.empty.ensures.grey),
  ap length c.in_ok-push.ensures.items ∙ longer c.loop-page.pages.items c.empty.result
      ∙ ap (λ n. n + 1) c.loop-page.invariant.1,
)
