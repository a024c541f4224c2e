pub mod AtOnce
pub mod Counting
pub mod Looping
