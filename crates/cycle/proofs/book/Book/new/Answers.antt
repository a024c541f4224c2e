use Rattle.cycle.proofs.Replaying.{made}
use Rattle.cycle.proofs.book.Book.new.Goals as goal

pub invariant_of-result : goal.invariant_of-result
invariant_of-result c = made c.args.config c.in-Ok.heap c.new-in-Ok.result.entries c.in-Ok.ensures.1
    c.new-in-Ok.ensures c.law-in-Ok.ensures.store c.law-in-Ok.ensures.heap c.law.ensures.first
