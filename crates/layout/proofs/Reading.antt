-- Reading a header's bits returns the header, and a header that was read has the bits from which it was read.
use Rattle.std.proofs.Common.{◌≡◌, ◌<◌, ◌^◌, ℕ, arith}
use Rattle.layout.specs.declared.header.Header.{Header}
use Rattle.layout.specs.Objects.{IsHeader, header_bits, header_of, birth_of, layout_of}

pub birth_back : (h : Header) → IsHeader h → birth_of (header_bits h) ≡ h.birth
birth_back h is_so = omega (arith, is_so.birth, is_so.layout)

pub layout_back : (h : Header) → IsHeader h → layout_of (header_bits h) ≡ h.layout
layout_back h is_so = omega (arith, is_so.birth, is_so.layout)

pub bits_back : (n : ℕ) → header_bits (header_of n) ≡ n
bits_back n = omega (arith)

pub birth_low : (n : ℕ) → n < 2 ^ 64 → birth_of n < 2 ^ 56
birth_low n low = omega (arith, low)
