use Rattle.std.proofs.Common.{◌∙◌, ◌/◌, ◌%◌, length, refl, subst}
use Rattle.std.specs.Prelude.{Ok}
use Rattle.model.specs.States.{HeapState}
use Rattle.model.specs.declared.steps.Refusal.TheVariants as refusals
use Rattle.managed.specs.Bytes.{EndsWritingBytes, words_touched}
use Rattle.managed.specs.Data.{LacksDatum}
use Rattle.managed.proofs.BulkData.{bytes_lack, replaced_managed, run_replaced}
use Rattle.managed.proofs.managed.ManagedHeap.write_bytes.Goals as goal

pub returns-then-not-write_run_bytes : goal.returns-then-not-write_run_bytes
returns-then-not-write_run_bytes c = (
  c.if-not-write_run_bytes.ensures.0 ∙ c.self.view_is,
  subst (λ (x : HeapState). LacksDatum x c.args.thread c.args.object (c.args.offset / 8)
      (words_touched (c.args.offset % 8) (length c.args.bytes.now)) refusals.BadIndex) c.self.view_is
      (bytes_lack c.self.inside.heap c.args.thread c.args.object c.args.offset c.count_words-count.result _ _
      c.in-Ok.run' c.in-Ok.ensures.run refl c.count_words-count.ensures.value c.if-not-write_run_bytes.ensures.1),
)

pub invariant_of-self-2 : goal.invariant_of-self-2
invariant_of-self-2 c =
    replaced_managed c.self.inside.heap c.write_run_bytes.new.heap c.args.thread c.args.object c.args.offset
    c.args.bytes.now (Ok tt) c.self.invariant
    (run_replaced c.self.inside.heap c.law-2.ensures.store c.law-2.ensures.heap c.law.ensures.steps
    c.law.ensures.marks c.law.ensures.phases c.law.ensures.tallies c.args.thread c.args.object c.args.offset
    c.count_words-count.result _ c.in-Ok.run' c.args.bytes.now c.write_run_bytes.new.heap c.in-Ok.ensures.run refl
    c.count_words-count.ensures.value c.if-not-write_run_bytes.ensures)

pub returns : goal.returns
returns c =
    subst (λ (x : HeapState). EndsWritingBytes c.args.thread c.args.object c.args.offset c.args.bytes.now x (Ok tt)
    c.write_run_bytes.new.heap) c.self.view_is
    (run_replaced c.self.inside.heap c.law-2.ensures.store c.law-2.ensures.heap c.law.ensures.steps
    c.law.ensures.marks c.law.ensures.phases c.law.ensures.tallies c.args.thread c.args.object c.args.offset
    c.count_words-count.result _ c.in-Ok.run' c.args.bytes.now c.write_run_bytes.new.heap c.in-Ok.ensures.run refl
    c.count_words-count.ensures.value c.if-not-write_run_bytes.ensures)
