-- The bits of bitmaps, by page and offset, and by the addresses of words: the definitions of `sequences`.
pub use Rattle.sequences.specs.Bits.{of_page, bit_on, bit_at, put_bit, with_bit, blank_row, blank_all, bit_count}
