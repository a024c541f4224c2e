pub mod Aside
pub mod Retained
