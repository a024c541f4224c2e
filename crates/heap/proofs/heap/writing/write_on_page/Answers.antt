use Rattle.std.proofs.Common.{arith}
use Rattle.model.proofs.Memory.{words_sized}
use Rattle.heap.proofs.Writing.{overlaid_page}
use Rattle.heap.proofs.heap.writing.write_on_page.Goals as goal

pub write_over-requires : goal.write_over-requires
write_over-requires c = omega (
  arith,
  c.requires.within,
  words_sized c.args.store.now c.args.page
      c.words_mut-words.result.now c.law.ensures c.words_mut-words.ensures.value,
)

pub returns : goal.returns
returns c = overlaid_page c.args.store.now c.args.page c.args.start c.words_mut-words.result.now _ c.args.values.now
    c.words_mut-words.ensures.value c.write_over.ensures
