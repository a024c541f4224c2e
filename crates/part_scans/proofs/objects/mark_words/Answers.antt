use Rattle.std.proofs.Common.{◌≡◌, ◌+◌, ◌-◌, suc, arith}
use Rattle.part_scans.proofs.Marked.{wait_first, wait_last, wait_next}
use Rattle.part_scans.proofs.objects.mark_words.Goals as goal

pub loop-number-init : goal.loop-number-init
loop-number-init c = (
  omega (arith, c.requires.room),
  λ x w. wait_first c.args.scene.now c.args.first c.args.index c.args.offset c.args.count (c.args.offset + 0)
      (c.args.count - 0) c.args.pages.now c.args.waiting.now.items c.args.sent.now.items x (omega arith)
      (omega arith) w,
)

pub loop-number-preserved : goal.loop-number-preserved
loop-number-preserved c =
    let one : c.args.count - c.loop-number.number ≡ suc (c.args.count - (c.loop-number.number + 1)) =
    omega (arith, c.loop-number-test.true) in (
      omega (arith, c.loop-number.invariant.0, c.mark_word.ensures.len, c.mark_word.ensures.capacity, one),
      λ x w. wait_next c.args.scene.now c.args.first c.args.index (c.args.offset + c.loop-number.number)
          (c.args.count - c.loop-number.number) (c.args.offset + (c.loop-number.number + 1))
          (c.args.count - (c.loop-number.number + 1)) c.loop-number.pages c.mark_word.new.pages
          c.loop-number.waiting.items c.mark_word.new.waiting.items c.loop-number.sent.items
          c.mark_word.new.sent.items _ _ x (c.loop-number.invariant.1 x w) one (omega arith)
          c.mark_word.ensures.pages c.mark_word.ensures.sent,
    )

pub returns : goal.returns
returns c = λ x w. wait_last c.args.scene.now c.args.first c.args.index c.args.offset
    (c.args.offset + c.loop-number.number) (c.args.count - c.loop-number.number) c.args.count c.args.pages.now
    c.loop-number.pages c.args.waiting.now.items c.loop-number.waiting.items c.args.sent.now.items
    c.loop-number.sent.items x (c.loop-number.invariant.1 x w) (omega (arith, c.loop-number-test.false))
