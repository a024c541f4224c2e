use Rattle.std.proofs.Common.{ℕ, ◌+◌, ap, ◌∙◌, subst, arith}
use Rattle.markbits.specs.Words.{IsNextPlace}
use Rattle.forward.proofs.Offsets.{left_next, left_none}
use Rattle.choosing.specs.Choices.{size_on}
use Rattle.choosing.proofs.Sums.{total_all, total_next, within}
use Rattle.choosing.proofs.sparse.row_words.Goals as goal

pub loop-offset-preserved : goal.loop-offset-preserved
loop-offset-preserved c =
    let h = c.args.heap.now in
    let row = c.args.row.now in
    let k = c.in-Some.offset in
    let first = subst (IsNextPlace row c.loop-offset.from) c.in-Some.is c.next_from.ensures in
    let near = within row k first.here in (
      total_next (size_on h c.args.page) _ _ k c.loop-offset.total _ _ (left_next row c.loop-offset.from k first)
          c.loop-offset.invariant.0
          (ap (λ (n : ℕ). c.loop-offset.total + n) (c.from-total.ensures ∙ c.object_words_on.ensures.value)),
      omega (arith, c.loop-offset.invariant.1, c.from-total.ensures, c.object_words_on.ensures.range, first.low),
      omega (arith, near),
    )

pub returns-clause-value : goal.returns-clause-value
returns-clause-value c =
    let row = c.args.row.now in
    total_all (size_on c.args.heap.now c.args.page) _ c.loop-offset.total _
    (left_none row c.loop-offset.from (subst (IsNextPlace row c.loop-offset.from) c.in_default.is c.next_from.ensures))
    c.loop-offset.invariant.0
