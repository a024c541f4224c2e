use Rattle.page.proofs.Lying.{takes_by}
use Rattle.page.proofs.store.Store.take.Goals as goal

pub returns-clause-buffers : goal.returns-clause-buffers
returns-clause-buffers c = takes_by c.args.self.now c.take_lowest.new.self c.args.n c.take_lowest.result c.law.ensures
    c.requires.low c.requires.high c.take_lowest.ensures
