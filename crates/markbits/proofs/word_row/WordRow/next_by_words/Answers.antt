use Rattle.std.proofs.Common.{◌*◌, arith}
use Rattle.std.proofs.lemmas.List.{get_or_read}
use Rattle.markbits.proofs.RowWords.{first_in_word, skipped_word, none_set, none_from}
use Rattle.markbits.proofs.word_row.WordRow.next_by_words.Goals as goal

pub loop-index-init : goal.loop-index-init
loop-index-init c = (λ j from below. absurd (omega (arith, from, below)), omega arith)

pub overflow_mul-place : goal.overflow_mul-place
overflow_mul-place c =
    let within = (first_in_word _ _ _ _ (64 * c.args.first) c.loop-index.index _ c.self.invariant.0 c.self.view_is
    (omega (arith, c.loop-index.invariant.1)) c.index-word.ensures (omega (arith, c.self.inside.words.ok.0))
    (omega arith) (omega (arith, c.if-word-ne0.true)) c.loop-index.invariant.0).0 in
    omega arith

pub overflow_add-place : goal.overflow_add-place
overflow_add-place c =
    let within = (first_in_word _ _ _ _ (64 * c.args.first) c.loop-index.index _ c.self.invariant.0 c.self.view_is
    (omega (arith, c.loop-index.invariant.1)) c.index-word.ensures (omega (arith, c.self.inside.words.ok.0))
    (omega arith) (omega (arith, c.if-word-ne0.true)) c.loop-index.invariant.0).0 in
    omega arith

pub overflow_cast-result : goal.overflow_cast-result
overflow_cast-result c =
    let within = (first_in_word _ _ _ _ (64 * c.args.first) c.loop-index.index _ c.self.invariant.0 c.self.view_is
    (omega (arith, c.loop-index.invariant.1)) c.index-word.ensures (omega (arith, c.self.inside.words.ok.0))
    (omega arith) (omega (arith, c.if-word-ne0.true)) c.loop-index.invariant.0).0 in
    omega arith

pub returns-then-word-ne0 : goal.returns-then-word-ne0
returns-then-word-ne0 c =
    (first_in_word _ _ _ _ (64 * c.args.first) c.loop-index.index _ c.self.invariant.0 c.self.view_is
    (omega (arith, c.loop-index.invariant.1)) c.index-word.ensures (omega (arith, c.self.inside.words.ok.0))
    (omega arith) (omega (arith, c.if-word-ne0.true)) c.loop-index.invariant.0).1

pub loop-index-preserved : goal.loop-index-preserved
loop-index-preserved c = (
  skipped_word c.self.inside.words.items (64 * c.args.first) c.loop-index.index c.index-word.result.now
      (omega (arith, c.loop-index.invariant.1))
      (get_or_read c.self.inside.words.items c.loop-index.index _ (omega
      (arith, c.self.inside.words.ok.0)) c.index-word.ensures 0) c.if-word-ne0.false c.loop-index.invariant.0,
  omega (arith, c.loop-index.invariant.1),
)

pub returns : goal.returns
returns c j from =
    rw (← c.self.view_is)
    (none_from c.self.inside.words.items c.self.inside.len c.self.inside.total (64 * c.args.first) c.loop-index.index
    c.self.invariant.0 (omega (arith, c.self.inside.words.ok.0)) c.loop-index.invariant.0 j from)

pub returns-then-self-eq0 : goal.returns-then-self-eq0
returns-then-self-eq0 c j from = none_set _ _ _ (rw c.if-self-eq0.true at c.self.invariant.0) c.self.view_is j
