use Rattle.std.proofs.Common.{arith}
use Rattle.markbits.proofs.Ranks.{rank_first, rank_behind_first, rank_all}
use Rattle.markbits.proofs.ranked_row.RankedRow.place_behind.Goals as goal

pub returns-then-left-eq0 : goal.returns-then-left-eq0
returns-then-left-eq0 c =
    let first = c.in-Some.ensures in
    let below = rank_first c.self.inside.row c.loop-place.from c.in-Some.place first in
    rw (← c.self.view_is) (first.here, omega (arith, below, c.loop-place.invariant, c.if-left-eq0.true))

pub loop-place-preserved : goal.loop-place-preserved
loop-place-preserved c =
    let below = rank_behind_first c.self.inside.row c.loop-place.from c.in-Some.place c.in-Some.ensures in
    omega (arith, below, c.loop-place.invariant, c.if-left-eq0.false)

pub returns : goal.returns
returns c =
    let all = rank_all c.self.inside.row c.loop-place.from c.in_default.ensures in
    rw (← c.self.view_is) (omega (arith, all, c.loop-place.invariant))
