pub mod Choices
pub mod Measures
pub mod Packings
pub mod Parts
