use Rattle.heap_images.proofs.Listing.{taken_more}
use Rattle.heap_images.proofs.taking.frames.Goals as goal

pub loop-number-preserved : goal.loop-number-preserved
loop-number-preserved c = taken_more c.args.frames.now c.loop-number.memory.items _ c.loop-number.number
    c.words.result.now c.in_ok-words.words.items c.words.ensures c.loop-number.invariant c.in_ok-push.ensures.items
    c.in_ok-words.ensures.items
