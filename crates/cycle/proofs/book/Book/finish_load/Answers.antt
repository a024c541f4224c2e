use Rattle.cycle.specs.Books.{act_outcome}
use Rattle.model.specs.declared.steps.Step.TheVariants as steps
use Rattle.cycle.specs.Loads.{finish_load}
use Rattle.cycle.proofs.Begun.{finish_goes, none_done}
use Rattle.cycle.proofs.WholeLoads.{last_done}
use Rattle.cycle.proofs.book.Book.finish_load.Goals as goal

pub returns-clause-steps : goal.returns-clause-steps
returns-clause-steps c =
    last_done c.args.self.now c.act_into.new.self
    (act_outcome c.args.self.now c.args.actor steps.Finish) c.act_into.result
    c.args.replies.now.items c.act_into.new.replies.items c.act_into.ensures.says c.act_into.ensures.replies

pub returns-clause-memory : goal.returns-clause-memory
returns-clause-memory c =
    let old = c.args.self.now in
    none_done c.act_into.result (finish_load old c.args.actor).book old c.args.replies.now.items c.act_into.new.self
    c.act_into.new.replies.items (finish_goes old c.args.actor) c.act_into.ensures.same_book
    c.act_into.ensures.same_replies
