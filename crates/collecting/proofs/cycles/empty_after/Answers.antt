use Rattle.std.proofs.Common.{subst, sym}
use Rattle.std.specs.Prelude.{Err}
use Rattle.model.specs.States.{HeapState}
use Rattle.model.specs.declared.steps.Refusal.TheVariants as refusals
use Rattle.collecting.specs.Collections.{ChoosesAndEmpties, EndsChoice}
use Rattle.collecting.proofs.Collections.{sparse_ends, sparse_lacks}
use Rattle.collecting.proofs.cycles.empty_after.Goals as goal

pub returns-in-Ok-clause-ends : goal.returns-in-Ok-clause-ends
returns-in-Ok-clause-ends g c =
    let choice = c.in-Ok.choice in
    sparse_ends c.args.percent c.args.live choice.live_words choice.words c.args.heap.now c.empty_choice.new.heap
    choice.pages.items c.empty_choice.result c.in-Ok.ensures.pages c.in-Ok.ensures.words c.in-Ok.ensures.live
    (subst (λ (h : HeapState). EndsChoice c.args.live choice.live_words choice.words h choice.pages.items
    c.empty_choice.result c.empty_choice.new.heap) c.choose.ensures.stays c.empty_choice.ensures.ends)

pub returns-in-Err-clause-ends : goal.returns-in-Err-clause-ends
returns-in-Err-clause-ends g c = subst (ChoosesAndEmpties c.args.percent c.args.live c.args.heap.now
    (Err refusals.Memory)) (sym c.choose.ensures.stays) (sparse_lacks c.args.percent c.args.live c.args.heap.now)
