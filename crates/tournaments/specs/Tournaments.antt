-- Trees in a list: the nodes below node n are 2 * n and 2 * n + 1.
use Rattle.std.specs.Prelude.{◌≡◌, ◌≢◌, ℕ, ◌+◌, ◌*◌, ◌^◌, ◌<◌, ◌≤◌, max, List, drop, length, slice_index, take}
use Rattle.tournaments.specs.declared.tournament.Tournament.TheInside.{Inside}

-- a node has the greater of the two numbers below it
abbrev pub IsWinner : List ℕ → ℕ → Type 0
IsWinner nodes i = slice_index nodes i ≡ max (slice_index nodes (2 * i)) (slice_index nodes (2 * i + 1))

-- each node above the leaves, which begin at index width, has the greater number
abbrev pub IsTree : List ℕ → ℕ → Type 0
IsTree nodes width = (i : ℕ) → 0 < i → i < width → IsWinner nodes i

-- the same for each node but one
abbrev pub IsTreeBut : List ℕ → ℕ → ℕ → Type 0
IsTreeBut nodes width but = (i : ℕ) → 0 < i → i < width → i ≢ but → IsWinner nodes i

-- a leaf is at least n, and each leaf before it is less
pub record IsFirstFrom (nodes : List ℕ) (width n leaf : ℕ) : Type 0 where
  pub low : width ≤ leaf
  pub high : leaf < 2 * width
  pub there : n ≤ slice_index nodes leaf
  pub first : (j : ℕ) → width ≤ j → j < leaf → slice_index nodes j < n

-- the numbers of a tree's leaves that are in use
abbrev pub numbers_of : Inside → List ℕ
numbers_of t = take t.count (drop t.width t.nodes.items)

-- the tree has a level for each doubling of its width, and its unused leaves are 0
pub record IsTournament (t : Inside) : Type 0 where
  pub width : t.width ≡ 2 ^ t.depth
  pub range : t.width ≤ 2 ^ 21
  pub sized : length t.nodes.items ≡ 2 * t.width
  pub count : t.count ≤ t.width
  pub tree : IsTree t.nodes.items t.width
  pub rest : (i : ℕ) → t.width + t.count ≤ i → slice_index t.nodes.items i ≡ 0
