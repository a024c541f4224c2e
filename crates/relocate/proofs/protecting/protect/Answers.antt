use Rattle.std.proofs.Common.{arith}
use Rattle.relocate.proofs.Ripeness.{few_pages, passed_once}
use Rattle.relocate.proofs.protecting.protect.Goals as goal

pub prepare-requires-clause-few : goal.prepare-requires-clause-few
prepare-requires-clause-few c =
    let h = c.law.ensures.heap in
    let few = few_pages c.args.heap.now c.args.pages.now
    (passed_once c.args.heap.now c.args.worker c.args.pages.now c.requires) c.in_ok-all_ripe.ensures.high in
    omega (arith, few, h.sizes.pages, h.config.pages_high)

pub protect_prepared-requires-clause-once : goal.protect_prepared-requires-clause-once
protect_prepared-requires-clause-once c = passed_once c.args.heap.now c.args.worker c.args.pages.now c.requires
