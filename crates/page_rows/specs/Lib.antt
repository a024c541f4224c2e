pub mod Bits
pub mod Opening
pub mod Runs
pub mod Starting
pub mod Owning
