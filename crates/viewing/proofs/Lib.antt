pub mod Seeing
pub mod Finding
