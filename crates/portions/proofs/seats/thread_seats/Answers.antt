use Rattle.std.proofs.Common.{◌++◌, ◌∙◌, ◌∷◌, [], ap}
use Rattle.portions.proofs.Numbered.{numbers_more}
use Rattle.portions.proofs.seats.thread_seats.Goals as goal

pub loop-thread-preserved : goal.loop-thread-preserved
loop-thread-preserved c = c.in_ok-push.ensures.items
    ∙ (ap (λ l. l ++ c.loop-thread.thread ∷ []) c.loop-thread.invariant ∙ numbers_more c.loop-thread.thread)
