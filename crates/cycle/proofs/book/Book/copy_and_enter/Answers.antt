use Rattle.std.proofs.Common.{◌∙◌, ◌++◌, ◌∷◌, [], ap, sym, subst}
use Rattle.model.specs.declared.steps.Actor.TheVariants.{Worker}
use Rattle.model.specs.declared.steps.Step.TheVariants as steps
use Rattle.refinement.specs.Standing.{MovesPhase}
use Rattle.cycle.specs.Books.{is_full, BookState}
use Rattle.cycle.specs.Replays.{replayed}
use Rattle.cycle.specs.Views.{book_of}
use Rattle.cycle.proofs.Replaying.{entered_book, left_book}
use Rattle.cycle.proofs.book.Book.copy_and_enter.Goals as goal

pub invariant_of-self-in_err-answer : goal.invariant_of-self-in_err-answer
invariant_of-self-in_err-answer t c =
    left_book (book_of c.self.inside) (steps.CopyPage c.args.page) c.copy_page_by.new.heap c.in_err-answer.field-0.0 _ _
    c.self.invariant
    c.in_err-answer.ensures.does c.reserve.ensures.entries

pub invariant_of-self-2 : goal.invariant_of-self-2
invariant_of-self-2 t c =
    let b = book_of c.self.inside in
    entered_book b (Worker c.args.worker) (steps.CopyPage c.args.page) c.copy_page_by.new.heap c.in_ok-answer.answer
    c.enter.new.self.entries
    c.self.invariant c.law.ensures.store c.law.ensures.heap
    (ap is_full c.self.view_is ∙ sym c.is_full.ensures ∙ c.if-is_full.false)
    (c.in_ok-answer.ensures.stands (replayed b).now (replayed b).at_mark)
    (c.enter.ensures ∙ ap (λ es. es ++ record {
      actor = Worker c.args.worker;
      step = steps.CopyPage c.args.page;
      answer = c.in_ok-answer.answer;
    } ∷ []) c.reserve.ensures.entries)

pub returns-clause-phase : goal.returns-clause-phase
returns-clause-phase t c =
    let b = book_of c.self.inside in
    subst (λ (b : BookState). MovesPhase b.heap (steps.CopyPage c.args.page) c.copy_page_by.new.heap) c.self.view_is
    (c.in_ok-answer.ensures.stands (replayed b).now (replayed b).at_mark c.self.invariant.holds).phase
