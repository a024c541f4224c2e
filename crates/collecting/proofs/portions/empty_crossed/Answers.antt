use Rattle.managed.proofs.Corrected.{crossed_open}
use Rattle.collecting.proofs.portions.empty_crossed.Goals as goal

pub settle_page-requires : goal.settle_page-requires
settle_page-requires c = crossed_open c.args.heap.now _ _ c.law.ensures.holds c.requires
