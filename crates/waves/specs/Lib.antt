pub mod Waves
pub mod Parts
pub mod Promises
