use Rattle.std.proofs.Common.{◌∙◌, refl}
use Rattle.managed.proofs.OnePage.{page_written}
use Rattle.managed.proofs.data.write_run.Goals as goal

pub returns-then-raw_set_words_behind : goal.returns-then-raw_set_words_behind
returns-then-raw_set_words_behind c =
    c.if-raw_set_words_behind.ensures.value ∙ page_written c.args.heap.now c.args.address c.args.ahead c.args.values.now
    (c.if-raw_set_words_behind.ensures.within refl)
