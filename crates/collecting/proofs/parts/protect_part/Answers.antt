use Rattle.collecting.proofs.Staged.{protected_not, protected_then}
use Rattle.collecting.proofs.parts.protect_part.Goals as goal

pub returns-in-Ok : goal.returns-in-Ok
returns-in-Ok c = protected_then c.args.pages.items c.args.parts.now c.begin.new.self c.args.heap.now
    c.protect.new.heap c.cross_part.new.heap c.protect.result tt c.cross_part.result c.in-Ok.is c.protect.ensures
    c.requires c.begin.ensures c.cross_part.ensures

pub returns-in-Err : goal.returns-in-Err
returns-in-Err c = protected_not c.args.pages.items c.args.parts.now c.begin_anew.new.parts c.args.heap.now
    c.protect.new.heap c.protect.result c.in-Err.refusal c.begin_anew.result c.in-Err.is c.protect.ensures c.requires
    c.begin_anew.ensures
