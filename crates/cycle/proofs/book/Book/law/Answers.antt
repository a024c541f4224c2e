use Rattle.std.proofs.Common.{subst}
use Rattle.cycle.specs.Books.{BookState}
use Rattle.cycle.specs.Replays.{KeepsPromises}
use Rattle.cycle.specs.Views.{book_of}
use Rattle.cycle.proofs.Replaying.{promises}
use Rattle.cycle.proofs.book.Book.law.Goals as goal

pub returns-clause-promises : goal.returns-clause-promises
returns-clause-promises c =
    subst (λ (b : BookState). KeepsPromises b) c.self.view_is (promises (book_of c.self.inside) c.self.invariant)
