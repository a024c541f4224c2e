pub mod Offsets
pub mod Overlays
pub mod Orders
pub mod Cuts
pub mod Stretches
