use Rattle.std.proofs.Common.{ap, ◌∙◌, subst}
use Rattle.std.specs.Io.KnownBytes.{Appends}
use Rattle.model.specs.Stores.{StoreState}
use Rattle.reporting.specs.Lines.{texts_from}
use Rattle.reporting.specs.Reports.{global_line}
use Rattle.reporting.proofs.Telling.{told_item, told_end}
use Rattle.reporting.proofs.lines.tell_globals.Goals as goal

pub loop-number-preserved : goal.loop-number-preserved
loop-number-preserved g c = told_item (global_line c.page_words-words.result) c.loop-number.number
    c.globals-globals.result.now c.index-globals-number.result _ _ _ _ c.loop-number.invariant c.loop-number-test.true
    c.index-globals-number.is c.in_ok-tell_global.ensures

pub returns : goal.returns
returns g c =
    let words = c.page_words-words.ensures.value ∙ ap (λ (s : StoreState). s.words) c.memory.ensures in
    let told = told_end (global_line c.page_words-words.result) c.loop-number.number c.globals-globals.result.now
    _ _ _ c.loop-number.invariant c.loop-number-test.false in
    let with_words = subst (λ n. Appends (g.W.Write.contents c.args.w.now) (g.W.Write.contents c.loop-number.w)
    (texts_from (global_line n) 0 c.globals-globals.result.now)) words told in
    subst (λ gs. Appends (g.W.Write.contents c.args.w.now) (g.W.Write.contents c.loop-number.w)
    (texts_from (global_line c.args.heap.now.store.words) 0 gs)) c.globals-globals.ensures with_words
