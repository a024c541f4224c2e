use Rattle.std.proofs.Common.{refl}
use Rattle.managed.proofs.ManyData.{data_all, data_next}
use Rattle.managed.proofs.data.write_by_words.Goals as goal

pub loop-index-preserved : goal.loop-index-preserved
loop-index-preserved c = data_next c.args.heap.now c.loop-index.heap c.raw_set_word_behind.new.self c.args.address
    c.args.ahead _ c.args.values.now c.loop-index.index _ c.loop-index-test.true c.loop-index.invariant refl
    c.raw_set_word_behind.ensures

pub returns : goal.returns
returns c = data_all c.args.heap.now c.loop-index.heap _ c.loop-index.index c.args.values.now c.loop-index-test.false
    c.loop-index.invariant
