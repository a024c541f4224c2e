use Rattle.std.proofs.Common.{◌∙◌, ap, arith, sym}
use Rattle.model.specs.States.{HeapState}
use Rattle.collecting.specs.Pacing.{is_urgent}
use Rattle.collecting.proofs.Paced.{counted_more, is_less, paced_more, paces_last}
use Rattle.collecting.proofs.pacing.pace.Goals as goal

pub returns-then-stops-clause-paces : goal.returns-then-stops-clause-paces
returns-then-stops-clause-paces c = paces_last c.loop-done.done c.is_urgent-all.result _ c.args.policy.free
    c.args.policy.percent c.args.budget c.args.parts.now c.loop-done.parts c.part_counted-part.new.parts
    c.args.heap.now c.loop-done.heap c.part_counted-part.new.heap c.part_counted-part.result
    (c.is_urgent-all.ensures ∙ ap (λ (x : HeapState). is_urgent c.args.policy.free c.args.parts.now x) c.heap.ensures)
    c.loop-done.invariant.0 (is_less c.loop-done.done c.is_urgent-all.result c.args.policy.free c.args.budget
    c.loop-done.parts
    c.heap-in-loop-done.result.now c.loop-done.heap c.heap-in-loop-done.ensures
    (omega (arith, c.if-done-most_parts.false, c.most_parts.ensures.value)))
    (sym c.stops.ensures ∙ c.if-stops.true) c.part_counted-part.ensures.ends c.part_counted-part.ensures.parts

pub loop-done-preserved : goal.loop-done-preserved
loop-done-preserved c = (
  paced_more c.loop-done.done c.is_urgent-all.result c.args.policy.free c.args.policy.percent c.args.budget
      c.args.parts.now c.loop-done.parts c.part_counted-part.new.parts c.args.heap.now c.loop-done.heap
      c.part_counted-part.new.heap c.part_counted-part.result c.loop-done.invariant.0
      (is_less c.loop-done.done c.is_urgent-all.result c.args.policy.free c.args.budget c.loop-done.parts
      c.heap-in-loop-done.result.now c.loop-done.heap c.heap-in-loop-done.ensures
      (omega (arith, c.if-done-most_parts.false, c.most_parts.ensures.value)))
      (sym c.stops.ensures ∙ c.if-stops.false) c.part_counted-part.ensures.ends c.part_counted-part.ensures.parts,
  counted_more c.loop-done.done c.is_urgent-all.result c.args.policy.free c.args.policy.percent c.args.budget
      c.args.parts.now c.loop-done.parts c.part_counted-part.new.parts c.args.heap.now c.loop-done.heap
      c.part_counted-part.new.heap c.args.counters.now c.loop-done.counters c.part_counted-part.new.counters
      c.part_counted-part.result c.loop-done.invariant.1
      (is_less c.loop-done.done c.is_urgent-all.result c.args.policy.free c.args.budget c.loop-done.parts
      c.heap-in-loop-done.result.now c.loop-done.heap c.heap-in-loop-done.ensures
      (omega (arith, c.if-done-most_parts.false, c.most_parts.ensures.value)))
      (sym c.stops.ensures ∙ c.if-stops.false) c.part_counted-part.ensures.parts c.part_counted-part.ensures.counts,
)
