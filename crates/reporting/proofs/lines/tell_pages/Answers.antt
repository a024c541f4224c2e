use Rattle.std.proofs.Common.{ap, ◌∙◌, subst}
use Rattle.std.specs.Io.KnownBytes.{Appends}
use Rattle.model.specs.Stores.{StoreState}
use Rattle.reporting.specs.Lines.{texts_from}
use Rattle.reporting.specs.Reports.{page_line}
use Rattle.reporting.proofs.Telling.{told_next, told_end}
use Rattle.reporting.proofs.lines.tell_pages.Goals as goal

pub loop-index-preserved : goal.loop-index-preserved
loop-index-preserved g c = told_next (page_line c.args.heap.now) c.loop-index.index c.pages-pages.result.now
    _ _ _ _ _ c.loop-index.invariant c.loop-index-test.true c.in_ok-tell_page.ensures

pub returns : goal.returns
returns g c =
    let pages = c.pages-pages.ensures ∙ ap (λ (s : StoreState). s.pages) c.memory.ensures in
    let told = told_end (page_line c.args.heap.now) c.loop-index.index c.pages-pages.result.now
    _ _ _ c.loop-index.invariant c.loop-index-test.false in
    subst (λ ps. Appends (g.W.Write.contents c.args.w.now) (g.W.Write.contents c.loop-index.w)
    (texts_from (page_line c.args.heap.now) 0 ps)) pages told
