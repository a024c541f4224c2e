use Rattle.std.proofs.Common.{refl, arith}
use Rattle.std.proofs.Common.{◌<◌, ◌+◌}
use Rattle.fast_paths.proofs.AtOnce.{field_there}
use Rattle.fast_paths.proofs.FoundObjects.{found_read, load_found}
use Rattle.fast_paths.proofs.found.load_found.Goals as goal

pub find_quiet_word-requires : goal.find_quiet_word-requires
find_quiet_word-requires c =
    let few : c.args.field < c.args.found.layout.refs = omega (arith, c.if-field-from.false, c.from.ensures) in
    c.requires.whole.fields c.args.thread c.args.object c.args.found.address c.args.field
    (c.args.found.address + (1 + c.args.field)) c.in-Some-word_of.bits c.requires.found.uses.usable
    (field_there c.args.heap.now c.args.found.address c.args.field c.args.field c.args.found.layout
    c.requires.found.layout few refl) c.in-Some-word_of.ensures

pub returns-clause-loads : goal.returns-clause-loads
returns-clause-loads c =
    let few : c.args.field < c.args.found.layout.refs = omega (arith, c.if-field-from.false, c.from.ensures) in
    load_found c.args.heap.now c.raw_read_into.new.self c.args.thread c.args.target c.args.object c.args.field c.args.field
    c.in-Some-word_of.bits c.in-Some._former c.in-Some-find_quiet_word.word c.args.found c.law.ensures.store
    c.law.ensures.heap c.in-Some-find_quiet_word.ensures.quiet c.requires.found c.in-Some.ensures few refl c.in-Some-word_of.ensures
    c.in-Some-find_quiet_word.ensures.word (λ b. c.raw_read_into.ensures b)

pub returns-clause-found : goal.returns-clause-found
returns-clause-found c apart =
    found_read c.args.heap.now c.raw_read_into.new.self c.args.thread c.args.object c.args.target
    c.in-Some-find_quiet_word.word c.args.found c.requires.found (λ b. c.raw_read_into.ensures b) apart
