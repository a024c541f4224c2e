use Rattle.fast_paths.proofs.AtOnce.{may_store}
use Rattle.fast_paths.proofs.at_once.store_at_once.Goals as goal

pub returns : goal.returns
returns c = may_store c.args.heap.now c.raw_set_word_at.new.self c.args.thread c.args.object c.args.field c.args.source
    c.in-Some.spot.address c.in-Some-field_on.ahead c.bits.result c.in-Some-source_at_once.word c.raw_set_word_at.result
    c.in-Some.ensures.uses c.in-Some-source_at_once.ensures c.in-Some-field_on.ensures.value c.bits.ensures.value
    c.raw_set_word_at.ensures
