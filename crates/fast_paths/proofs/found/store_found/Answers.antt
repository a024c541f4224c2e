use Rattle.std.proofs.Common.{◌<◌, ◌+◌, arith}
use Rattle.fast_paths.proofs.AtOnce.{field_there, may_store}
use Rattle.fast_paths.proofs.FoundObjects.{found_set}
use Rattle.fast_paths.proofs.found.store_found.Goals as goal

pub returns-clause-does : goal.returns-clause-does
returns-clause-does c =
    let a = c.args.found.address in
    let few : c.args.field < c.args.found.layout.refs = omega (arith, c.if-field-from.false, c.from.ensures) in
    may_store c.args.heap.now c.raw_set_word_at.new.self c.args.thread c.args.object c.args.field c.args.source
    a (1 + c.from-2.result) c.bits.result c.in-Some.word c.raw_set_word_at.result c.requires.found.uses c.in-Some.ensures
    (field_there c.args.heap.now a c.args.field c.from-2.result c.args.found.layout c.requires.found.layout few
    c.from-2.ensures) c.bits.ensures.value c.raw_set_word_at.ensures

pub returns-clause-found : goal.returns-clause-found
returns-clause-found c =
    found_set c.args.heap.now c.raw_set_word_at.new.self c.args.thread c.args.object (1 + c.from-2.result) c.bits.result
    c.raw_set_word_at.result c.args.found c.law.ensures.store c.requires.found (omega arith) c.raw_set_word_at.ensures
