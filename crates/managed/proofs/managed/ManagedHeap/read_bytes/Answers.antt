use Rattle.std.proofs.Common.{◌∙◌, ◌/◌, ◌%◌, length, ap, refl, subst, sym}
use Rattle.std.specs.Prelude.{Ok}
use Rattle.model.specs.States.{HeapState}
use Rattle.model.specs.declared.steps.Refusal.TheVariants as refusals
use Rattle.managed.specs.Bytes.{EndsReadingBytes, words_touched}
use Rattle.managed.specs.Data.{LacksDatum}
use Rattle.managed.proofs.BulkData.{bytes_lack, run_bytes}
use Rattle.managed.proofs.managed.ManagedHeap.read_bytes.Goals as goal

pub returns-then-not-read_run_bytes-clause-reads : goal.returns-then-not-read_run_bytes-clause-reads
returns-then-not-read_run_bytes-clause-reads c =
    let many = c.count_words-count.ensures.value ∙ ap (words_touched (c.args.offset % 8)) (sym c.read_run_bytes.ensures.len) in
    subst (λ (x : HeapState). LacksDatum x c.args.thread c.args.object (c.args.offset / 8)
    (words_touched (c.args.offset % 8) (length c.read_run_bytes.new.bytes)) refusals.BadIndex) c.self.view_is
    (bytes_lack c.self.inside.heap c.args.thread c.args.object c.args.offset c.count_words-count.result _ _
    c.in-Ok.run' c.in-Ok.ensures.run refl many c.if-not-read_run_bytes.ensures.bytes)

pub returns-clause-reads : goal.returns-clause-reads
returns-clause-reads c =
    let many = c.count_words-count.ensures.value ∙ ap (words_touched (c.args.offset % 8)) (sym c.read_run_bytes.ensures.len) in
    subst (λ (x : HeapState). EndsReadingBytes c.args.thread c.args.object c.args.offset x (Ok tt)
    c.read_run_bytes.new.bytes) c.self.view_is
    (run_bytes c.self.inside.heap c.args.thread c.args.object c.args.offset c.count_words-count.result _ c.in-Ok.run'
    c.read_run_bytes.new.bytes c.in-Ok.ensures.run refl many c.if-not-read_run_bytes.ensures.bytes)
