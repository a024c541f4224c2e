use Rattle.fast_paths.proofs.AtOnce.{numbered, uses_at_once}
use Rattle.fast_paths.proofs.found.find_spot.Goals as goal

pub returns-clause-uses : goal.returns-clause-uses
returns-clause-uses c =
    uses_at_once c.args.heap.now c.args.thread c.args.register c.number-address.result c.in_ok-word.word
    c.in_ok-frame.ensures.open c.in_ok-word.ensures (numbered c.in_ok-word.word c.number-address.result c.number-address.ensures c.in_ok-frame.ensures.address)
