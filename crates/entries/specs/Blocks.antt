-- Lists in blocks.
use Rattle.std.specs.Prelude.{◌≡◌, ◌++◌, Bool, List, length, vec_items}
use Rattle.std.specs.Global.{Vec}
use Rattle.std.specs.List.{flat_map}
use Rattle.entries.specs.declared.blocks.Kept.{Kept}

-- the entries of a list, and whether there is space for one more
pub record BlocksState : Type 0 where
  pub items : List Kept
  pub has_room : Bool

-- a block
abbrev pub Block : Type 0
Block = Vec Kept

-- a block is full
abbrev pub IsFull : Block → Type 0
IsFull b = length (vec_items b) ≡ 2048

-- the entries of full blocks, then those of the last one
unfoldable pub joined : List Block → List Kept → List Kept
joined full last = flat_map vec_items full ++ last
