pub mod Drains
pub mod Waiting
pub mod Scans
