use Rattle.managed.proofs.Corrected.{crossed_open}
use Rattle.collecting.proofs.leftovers.settle_crossed.Goals as goal

pub settle_pages-requires : goal.settle_pages-requires
settle_pages-requires c = crossed_open c.args.heap.now _ _ c.law.ensures.holds c.requires
