use Rattle.std.proofs.Common.{length, subst, sym}
use Rattle.waves.specs.Parts.{AreNew}
use Rattle.waves.proofs.Building.{new_within}
use Rattle.waves.proofs.waving.wave.Goals as goal

pub scan_parts-found-requires-clause-new : goal.scan_parts-found-requires-clause-new
scan_parts-found-requires-clause-new g c κs within =
    subst (AreNew (length c.args.heap.now.store.pages)) (sym c.deref_mut.ensures.value)
    (new_within c.used_records-used.result (length c.args.heap.now.store.pages) c.in-Ok.parts.items c.used_records-used.ensures
    c.in-Ok.ensures.new)
