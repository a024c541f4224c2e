use Rattle.std.proofs.Common.{◌∙◌, ◌++◌, ◌∷◌, [], ap, sym, subst}
use Rattle.refinement.specs.Standing.{Leaves, MovesPhase}
use Rattle.cycle.specs.Books.{is_full, BookState}
use Rattle.cycle.specs.Replays.{replayed}
use Rattle.cycle.specs.Views.{book_of}
use Rattle.cycle.proofs.Replaying.{entered_book, left_book}
use Rattle.cycle.proofs.book.Book.step_and_enter.Goals as goal

pub invariant_of-self-in_err-answer : goal.invariant_of-self-in_err-answer
invariant_of-self-in_err-answer c =
    left_book (book_of c.self.inside) c.args.step c.step.new.self c.in_err-answer.field-0.0 _ _ c.self.invariant
    c.in_err-answer.ensures.does c.reserve.ensures.entries

pub invariant_of-self-2 : goal.invariant_of-self-2
invariant_of-self-2 c =
    let b = book_of c.self.inside in
    entered_book b c.args.actor c.args.step c.step.new.self c.in_ok-answer.answer c.enter.new.self.entries
    c.self.invariant c.law.ensures.store c.law.ensures.heap
    (ap is_full c.self.view_is ∙ sym c.is_full.ensures ∙ c.if-is_full.false)
    (c.in_ok-answer.ensures.stands (replayed b).now (replayed b).at_mark)
    (c.enter.ensures ∙ ap (λ es. es ++ record {
      actor = c.args.actor;
      step = c.args.step;
      answer = c.in_ok-answer.answer;
    } ∷ []) c.reserve.ensures.entries)

pub returns-clause-leaves : goal.returns-clause-leaves
returns-clause-leaves c =
    let b = book_of c.self.inside in
    subst (λ (b : BookState). Leaves b.heap (replayed b).now c.args.step) c.self.view_is
    (c.in_ok-answer.ensures.stands (replayed b).now (replayed b).at_mark c.self.invariant.holds).leaves

pub returns-clause-phase : goal.returns-clause-phase
returns-clause-phase c =
    let b = book_of c.self.inside in
    subst (λ (b : BookState). MovesPhase b.heap c.args.step c.step.new.self) c.self.view_is
    (c.in_ok-answer.ensures.stands (replayed b).now (replayed b).at_mark c.self.invariant.holds).phase
