-- A list in blocks as contracts see it.
use Rattle.std.specs.Prelude.{◌≡◌, ◌≤◌, ◌^◌, ◌&&◌, length, nat_lt, vec_len, vec_capacity}
use Rattle.std.specs.List.{All}
use Rattle.entries.specs.declared.blocks.Blocks.TheInside.{Inside}
use Rattle.entries.specs.Blocks.{BlocksState, IsFull, joined}

-- the list, and whether there is space for one more
abbrev pub blocks_of : Inside → BlocksState
blocks_of b = record {
  items = joined b.full.items b.last.items;
  has_room = nat_lt (vec_len b.last) (vec_capacity b.last) && nat_lt b.count (2 ^ 62);
}

-- all blocks but the last are full, and the number of entries is right
pub record AreBlocks (b : Inside) : Type 0 where
  pub full : All IsFull b.full.items
  pub counted : b.count ≡ length (joined b.full.items b.last.items)
  pub few : b.count ≤ 2 ^ 62
