pub mod Held
pub mod Knowing
