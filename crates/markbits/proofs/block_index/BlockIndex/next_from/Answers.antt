use Rattle.markbits.proofs.Blocks.{found_in_block, none_later, in_later}
use Rattle.markbits.proofs.block_index.BlockIndex.next_from.Goals as goal

pub returns-in-Some : goal.returns-in-Some
returns-in-Some c = rw (← c.self.view_is) (found_in_block c.self.inside.row _ _ _ c.in-Some.ensures)

pub returns-in_err-group : goal.returns-in_err-group
returns-in_err-group c =
    rw (← c.self.view_is, c.from_residual.ensures)
    (none_later c.self.inside.row c.self.inside.groups _ c.self.invariant c.in_default.ensures c.in_err-group.ensures)

pub returns : goal.returns
returns c =
    rw (← c.self.view_is)
    (in_later c.self.inside.row c.self.inside.groups _ _ _ c.self.invariant
    c.in_default.ensures c.in_ok-group.ensures c.next_in_block-2.ensures)
