pub mod Elements
pub mod Bits
