use Rattle.fast_paths.proofs.AtOnce.{datum_read}
use Rattle.fast_paths.proofs.at_once.datum_at_once.Goals as goal

pub returns : goal.returns
returns c = datum_read c.args.heap.now c.args.thread c.args.object c.in_ok-spot.spot.address c.args.index
    c.in_ok-ahead.ahead c.in_ok-value.value c.in_ok-spot.ensures.uses c.in_ok-ahead.ensures.value
    c.in_ok-value.ensures
