use Rattle.std.proofs.Common.{◌+◌, ◌-◌, ◌∙◌, sym, ap, arith, reverse}
use Rattle.model.specs.States.{HeapState}
use Rattle.drains.specs.Drains.{marked_fields}
use Rattle.drains.specs.Waiting.{all_noted}
use Rattle.drains.proofs.Scanned.{fields_more}
use Rattle.drains.proofs.Written.{frame_stays}
use Rattle.drains.proofs.whole.mark_fields.Goals as goal

pub loop-index-preserved : goal.loop-index-preserved
loop-index-preserved c =
    let i = c.loop-index.index in (
      c.loop-index.invariant.0
          ∙ fields_more (all_noted c.loop-index.heap (reverse c.loop-index.waiting.items)) c.args.address i
          (c.args.refs - i)
          (c.args.refs - (i + 1)) (omega (arith, c.loop-index-test.true))
          ∙ ap (λ (g : HeapState). marked_fields g c.args.address (i + 1) (c.args.refs - (i + 1)))
          (sym c.mark_field_on.ensures.field),
      c.mark_field_on.ensures.waits,
      frame_stays c.loop-index.heap c.mark_field_on.new.heap c.args.address c.args.frame _
          (reverse c.loop-index.waiting.items) (reverse c.mark_field_on.new.waiting.items) c.mark_field_on.ensures.field
          c.loop-index.invariant.2,
    )
