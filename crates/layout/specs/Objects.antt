-- Objects in memory.
use Rattle.std.specs.Prelude.{ℕ, ◌+◌, ◌*◌, ◌/◌, ◌%◌, ◌^◌, ◌<◌}
use Rattle.layout.specs.declared.shape.Layout.{Layout}
use Rattle.layout.specs.declared.header.Header.{Header}

-- the number of words of an object: its header, its references, its data
abbrev pub size_of : Layout → ℕ
size_of l = 1 + l.refs + l.nums

-- the numbers of a header are in their ranges
pub record IsHeader (h : Header) : Type 0 where
  pub birth : h.birth < 2 ^ 56
  pub layout : h.layout < 2 ^ 8

-- the bits of a header: the lower bits of its birth, its layout, the upper bits of its birth
abbrev pub header_bits : Header → ℕ
header_bits h = h.birth % 2 ^ 32 + h.layout * 2 ^ 32 + h.birth / 2 ^ 32 * 2 ^ 40

-- the birth in the bits of a header
abbrev pub birth_of : ℕ → ℕ
birth_of bits = bits % 2 ^ 32 + bits / 2 ^ 40 * 2 ^ 32

-- the number of the layout in the bits of a header
abbrev pub layout_of : ℕ → ℕ
layout_of bits = bits / 2 ^ 32 % 2 ^ 8

-- the header with these bits
abbrev pub header_of : ℕ → Header
header_of bits = record { birth = birth_of bits; layout = layout_of bits }
