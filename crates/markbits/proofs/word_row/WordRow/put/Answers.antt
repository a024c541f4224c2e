use Rattle.std.proofs.Common.{set, ap, ◌∙◌, arith}
use Rattle.markbits.proofs.RowWords.{put_is, same_put, same_put_here, row_length}
use Rattle.markbits.proofs.Lows.{low_set, low_cleared}
use Rattle.markbits.proofs.word_row.WordRow.put.Goals as goal
use Rattle.markbits.proofs.word_row.WordRow.put.Goals.{else-offset-self-via-then-offset-self+else-test-bit}
use Rattle.markbits.proofs.word_row.WordRow.put.Goals.{else-offset-self-via-else-offset-self}

pub overflow_add-self : goal.overflow_add-self
overflow_add-self c =
    let put = put_is _ _ _ _ _ _ _ _ c.self.invariant.0 c.self.view_is c.if-offset-self.true c.test.ensures
    c.if-test-bit.true c.index_mut.ensures.value in
    let most = (put.more c.if-bit.true).0 in
    omega arith

pub invariant_of-self : goal.invariant_of-self
invariant_of-self c =
    let put = put_is _ _ _ _ _ _ _ _ c.self.invariant.0 c.self.view_is c.if-offset-self.true c.test.ensures
    c.if-test-bit.true c.index_mut.ensures.value in
    let is = (put.more c.if-bit.true).1 in (
      is,
      low_set _ _ _ c.self.inside.low c.args.offset c.lower.new.low c.self.invariant.1
          (put.is ∙ ap (set _ c.args.offset) c.if-bit.true) c.lower.ensures.index
          c.lower.ensures.low,
    )

pub returns-then-bit : goal.returns-then-bit
returns-then-bit c =
    let put = put_is _ _ _ _ _ _ _ _ c.self.invariant.0 c.self.view_is c.if-offset-self.true c.test.ensures
    c.if-test-bit.true c.index_mut.ensures.value in
    rw (← c.self.view_is) put.is

pub overflow_sub-self : goal.overflow_sub-self
overflow_sub-self c =
    let put = put_is _ _ _ _ _ _ _ _ c.self.invariant.0 c.self.view_is c.if-offset-self.true c.test.ensures
    c.if-test-bit.true c.index_mut.ensures.value in
    (put.less c.if-bit.false).0

pub invariant_of-self-else-bit : goal.invariant_of-self-else-bit
invariant_of-self-else-bit c =
    let put = put_is _ _ _ _ _ _ _ _ c.self.invariant.0 c.self.view_is c.if-offset-self.true c.test.ensures
    c.if-test-bit.true c.index_mut.ensures.value in
    let is = (put.less c.if-bit.false).1 in (
      is,
      low_cleared _ _ _ _ c.self.inside.low c.args.offset c.raise.new.low c.index.result.now is
          c.self.invariant.1 (put.is ∙ ap (set _ c.args.offset) c.if-bit.false) c.if-offset-self.true c.index.ensures
          (omega (arith, is.room, c.if-offset-self.true)) c.raise.ensures,
    )

pub returns-else-bit : goal.returns-else-bit
returns-else-bit c =
    let put = put_is _ _ _ _ _ _ _ _ c.self.invariant.0 c.self.view_is c.if-offset-self.true c.test.ensures
    c.if-test-bit.true c.index_mut.ensures.value in
    rw (← c.self.view_is) put.is

pub returns-else-offset-self : goal.returns-else-offset-self
returns-else-offset-self c =
    elim c.else-offset-self.branch [
      | else-offset-self-via-then-offset-self+else-test-bit w ↦ same_put_here _ _ _ _ w.test.ensures w.if-test-bit.false
      | else-offset-self-via-else-offset-self w ↦ same_put _ _ _ _
          (row_length _ _ _ c.self.view_is) w.if-offset-self.false
    ]
