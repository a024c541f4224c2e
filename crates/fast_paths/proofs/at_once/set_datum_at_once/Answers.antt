use Rattle.fast_paths.proofs.AtOnce.{may_set_datum}
use Rattle.fast_paths.proofs.at_once.set_datum_at_once.Goals as goal

pub returns : goal.returns
returns c = may_set_datum c.args.heap.now c.raw_set_word_at.new.self c.args.thread c.args.object c.args.index c.args.value
    c.in-Some.spot.address c.in-Some-datum_on.ahead c.raw_set_word_at.result c.in-Some.ensures.uses
    c.in-Some-datum_on.ensures.value c.raw_set_word_at.ensures
