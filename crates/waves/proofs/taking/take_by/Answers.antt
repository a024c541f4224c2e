use Rattle.std.proofs.Common.{length, subst, sym}
use Rattle.heap.specs.Owning.{ArePlaced}
use Rattle.waves.specs.Parts.{AreJoined}
use Rattle.waves.proofs.Building.{new_within}
use Rattle.waves.proofs.TakenBy.{taken_done}
use Rattle.waves.proofs.taking.take_by.Goals as goal

pub raw_scan_by-requires-clause-placed : goal.raw_scan_by-requires-clause-placed
raw_scan_by-requires-clause-placed g c κs within =
    subst (ArePlaced (length c.args.heap.now.store.pages) 0) (sym c.deref_mut.ensures.value)
    (new_within c.args.used (length c.args.heap.now.store.pages) c.in-Ok.parts.items c.requires.used
    c.in-Ok.ensures.new).placed

pub returns-clause-taken : goal.returns-clause-taken
returns-clause-taken g c = λ e.
    taken_done c.args.heap.now c.raw_scan_by.new.self c.args.used _ c.deref_mut.result.now c.raw_scan_by.new.parts
    c.law.ensures.store c.law.ensures.heap c.requires.sent
    (subst (AreJoined c.args.used 0) (sym c.deref_mut.ensures.value) c.in-Ok.ensures.joined) c.requires.used
    (c.are_bare.ensures c.if-not-are_bare.false) c.raw_scan_by.ensures
