pub mod Worlds
pub mod PlainHeaps
pub mod Claims
pub mod Roots
pub mod Tallies
pub mod Standing
pub mod Packing
pub mod Naming
