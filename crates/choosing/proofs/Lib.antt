pub mod Sums
pub mod Packed
pub mod Cuts
pub mod Numbered
pub mod Low
pub mod Measuring
