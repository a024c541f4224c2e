use Rattle.heap.proofs.Writing.{written_object}
use Rattle.heap.proofs.heap.birth.write_new.Goals as goal

pub returns : goal.returns
returns c =
    written_object c.args.store.now c.args.buffer c.part_mut-part.result.now c.write_object.new.part c.args.header
    c.args.others c.law.ensures c.requires.lies c.requires.room c.part_mut-part.ensures.value c.write_object.ensures
