use Rattle.std.proofs.Common.{◌<◌, ◌+◌, arith}
use Rattle.fast_paths.proofs.AtOnce.{datum_there, may_set_datum}
use Rattle.fast_paths.proofs.FoundObjects.{found_set}
use Rattle.fast_paths.proofs.found.set_datum_found.Goals as goal

pub returns-clause-does : goal.returns-clause-does
returns-clause-does c =
    let a = c.args.found.address in
    let few : c.args.index < c.args.found.layout.nums = omega (arith, c.if-index-from.false, c.from.ensures) in
    may_set_datum c.args.heap.now c.raw_set_word_at.new.self c.args.thread c.args.object c.args.index c.args.value a
    (1 + c.from-2.result + c.from-3.result) c.raw_set_word_at.result c.requires.uses
    (datum_there c.args.heap.now a c.args.index c.from-2.result c.from-3.result c.args.found.layout c.requires.layout
    few c.from-2.ensures c.from-3.ensures) c.raw_set_word_at.ensures

pub returns-clause-found : goal.returns-clause-found
returns-clause-found c =
    found_set c.args.heap.now c.raw_set_word_at.new.self c.args.thread c.args.object
    (1 + c.from-2.result + c.from-3.result) c.args.value c.raw_set_word_at.result c.args.found c.law.ensures.store
    c.requires (omega arith) c.raw_set_word_at.ensures
