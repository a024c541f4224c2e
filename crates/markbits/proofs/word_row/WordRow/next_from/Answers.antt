use Rattle.std.proofs.Common.{arith}
use Rattle.markbits.proofs.Lows.{next_later}
use Rattle.markbits.proofs.word_row.WordRow.next_from.Goals as goal

pub returns : goal.returns
returns c =
    next_later c.args.self.now c.self.inside.low c.args.offset c.max.result c.next_by_words.result
    (rw (← c.self.view_is) c.self.invariant.1) c.in_default.ensures (omega (arith, c.max.ensures))
    (λ more. omega (arith, more, c.max.ensures)) c.next_by_words.ensures
