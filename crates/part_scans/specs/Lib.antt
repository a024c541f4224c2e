pub mod Scenes
pub mod Scans
pub mod Waiting
