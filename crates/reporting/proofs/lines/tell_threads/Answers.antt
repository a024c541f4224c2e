use Rattle.std.proofs.Common.{ap, ◌∙◌, subst}
use Rattle.std.specs.Io.KnownBytes.{Appends}
use Rattle.model.specs.Stores.{StoreState}
use Rattle.reporting.specs.Lines.{texts_from}
use Rattle.reporting.specs.Reports.{thread_line}
use Rattle.reporting.proofs.Telling.{told_item, told_end}
use Rattle.reporting.proofs.lines.tell_threads.Goals as goal

pub loop-number-preserved : goal.loop-number-preserved
loop-number-preserved g c = told_item (thread_line c.page_words-words.result) c.loop-number.number
    c.threads-threads.result.now c.index-threads-number.result _ _ _ _ c.loop-number.invariant c.loop-number-test.true
    c.index-threads-number.is c.in_ok-tell_thread.ensures

pub returns : goal.returns
returns g c =
    let words = c.page_words-words.ensures.value ∙ ap (λ (s : StoreState). s.words) c.memory.ensures in
    let told = told_end (thread_line c.page_words-words.result) c.loop-number.number c.threads-threads.result.now
    _ _ _ c.loop-number.invariant c.loop-number-test.false in
    let with_words = subst (λ n. Appends (g.W.Write.contents c.args.w.now) (g.W.Write.contents c.loop-number.w)
    (texts_from (thread_line n) 0 c.threads-threads.result.now)) words told in
    subst (λ gs. Appends (g.W.Write.contents c.args.w.now) (g.W.Write.contents c.loop-number.w)
    (texts_from (thread_line c.args.heap.now.store.words) 0 gs)) c.threads-threads.ensures with_words
