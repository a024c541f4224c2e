use Rattle.collecting.proofs.Staged.{empties_next, empties_none, empties_stop}
use Rattle.collecting.proofs.parts.empty_part.Goals as goal

pub returns-in-None : goal.returns-in-None
returns-in-None c = empties_none c.args.parts.now c.begin.new.self c.args.heap.now c.next_page.result
    c.next_page.ensures c.in-None.is c.begin.ensures

pub returns-in-Ok : goal.returns-in-Ok
returns-in-Ok c = empties_next c.args.parts.now c.pass.new.self c.args.heap.now c.empty_one.new.heap
    c.next_page.result c.in-Some.page c.empty_one.result tt c.next_page.ensures c.in-Some.is c.in-Ok.is
    c.empty_one.ensures c.pass.ensures

pub returns-in-Err : goal.returns-in-Err
returns-in-Err c = empties_stop c.args.parts.now c.args.heap.now c.empty_one.new.heap c.next_page.result
    c.in-Some.page c.empty_one.result c.in-Err.refusal c.next_page.ensures c.in-Some.is c.in-Err.is
    c.empty_one.ensures
