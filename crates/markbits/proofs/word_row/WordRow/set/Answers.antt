use Rattle.std.proofs.Common.{Bool, Some, true, false, ◌∙◌, sym, ap, arith}
use Rattle.std.proofs.lemmas.Option.{slice_get_past, slice_get-get_or}
use Rattle.markbits.proofs.RowWords.{same_put, row_length}
use Rattle.markbits.proofs.word_row.WordRow.set.Goals as goal

pub returns-then-offset-self-clause-was : goal.returns-then-offset-self-clause-was
returns-then-offset-self-clause-was c =
    let many = row_length _ _ _ c.self.view_is in
    sym (slice_get_past c.args.self.now c.args.offset (omega (arith, many, c.if-offset-self.true)))

pub returns-then-offset-self-clause-row : goal.returns-then-offset-self-clause-row
returns-then-offset-self-clause-row c =
    same_put _ _ _ true (row_length _ _ _ c.self.view_is) c.if-offset-self.true

pub returns-clause-was : goal.returns-clause-was
returns-clause-was c =
    let many = row_length _ _ _ c.self.view_is in
    ap (λ (b : Bool). Some b) c.test-was.ensures
    ∙ sym (slice_get-get_or c.args.self.now c.args.offset false (omega (arith, many, c.if-offset-self.false)))
