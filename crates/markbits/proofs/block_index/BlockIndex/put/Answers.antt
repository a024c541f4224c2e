use Rattle.markbits.proofs.Blocks.{put_index}
use Rattle.markbits.proofs.block_index.BlockIndex.put.Goals as goal

pub invariant_of-self : goal.invariant_of-self
invariant_of-self c =
    put_index c.self.inside.row c.self.inside.groups c.args.index _ c.self.invariant _ _ _ _ c.put.ensures
    c.next_in_block.ensures c.is_some-has_bit.ensures c.put-2.ensures
