pub mod Keeping
pub mod Joining
mod Examples
pub mod OneCode
pub mod Entries
pub mod Parts
