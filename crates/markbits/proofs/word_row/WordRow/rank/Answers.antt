use Rattle.std.proofs.Common.{arith}
use Rattle.markbits.proofs.RowWords.{set_count_none, rank_more, rank_rest, rank_past}
use Rattle.markbits.proofs.word_row.WordRow.rank.Goals as goal

pub returns-then-offset-self : goal.returns-then-offset-self
returns-then-offset-self c = rank_past _ _ _ _ c.args.offset c.self.invariant.0 c.self.view_is c.if-offset-self.true

pub loop-index-init : goal.loop-index-init
loop-index-init c = set_count_none c.self.inside.words.items

pub loop-index-preserved : goal.loop-index-preserved
loop-index-preserved c =
    (rank_more c.self.inside.words.items c.loop-index.index c.index-word.result.now c.loop-index.below
    c.loop-index.invariant c.index-word.ensures
    (omega (arith, c.self.inside.words.ok.0, c.self.invariant.0.room)) (omega arith)).0

pub overflow_add-below : goal.overflow_add-below
overflow_add-below c =
    let low = (rank_more c.self.inside.words.items c.loop-index.index c.index-word.result.now c.loop-index.below
    c.loop-index.invariant c.index-word.ensures
    (omega (arith, c.self.inside.words.ok.0, c.self.invariant.0.room)) (omega arith)).1 in
    omega arith

pub overflow_add-result : goal.overflow_add-result
overflow_add-result c =
    let low = (rank_rest _ _ _ _ c.args.offset c.loop-index.index _ c.loop-index.below c.self.invariant.0
    c.self.view_is c.if-offset-self.false c.loop-index-test.false
    c.loop-index.auto.index-end c.loop-index.invariant c.index.ensures (omega (arith, c.self.invariant.0.room))).0 in
    omega arith

pub returns : goal.returns
returns c =
    (rank_rest _ _ _ _ c.args.offset c.loop-index.index _ c.loop-index.below c.self.invariant.0 c.self.view_is
    c.if-offset-self.false c.loop-index-test.false
    c.loop-index.auto.index-end c.loop-index.invariant c.index.ensures (omega (arith, c.self.invariant.0.room))).1
