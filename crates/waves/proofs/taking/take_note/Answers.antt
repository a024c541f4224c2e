use Rattle.std.proofs.Common.{◌∙◌, sym}
use Rattle.waves.proofs.Sent.{taken_none, taken_end, taken_mark}
use Rattle.waves.proofs.taking.take_note.Goals as goal

pub returns-in_default : goal.returns-in_default
returns-in_default c = taken_none c.args.heap.now c.args.note (sym c.in_default.is ∙ c.addr.ensures.value)

pub returns-then-nmt : goal.returns-then-nmt
returns-then-nmt c =
    taken_end c.args.heap.now c.raw_clear_todo.new.self c.args.note c.in-Some.address
    (sym c.in-Some.is ∙ c.addr.ensures.value) (sym c.if-nmt.true ∙ c.nmt.ensures) c.raw_clear_todo.ensures

pub returns-then-raw_mark : goal.returns-then-raw_mark
returns-then-raw_mark c =
    taken_mark c.args.heap.now c.raw_set_todo.new.self c.args.note c.in-Some.address
    (sym c.in-Some.is ∙ c.addr.ensures.value) (sym c.if-nmt.false ∙ c.nmt.ensures)
    (c.raw_set_todo.ensures ∙ c.if-raw_mark.ensures.rest)

pub returns-else-raw_mark : goal.returns-else-raw_mark
returns-else-raw_mark c =
    taken_mark c.args.heap.now c.raw_mark.new.self c.args.note c.in-Some.address
    (sym c.in-Some.is ∙ c.addr.ensures.value) (sym c.if-nmt.false ∙ c.nmt.ensures) c.if-raw_mark.ensures
