pub mod AtOnce
pub mod AtOnceGlobals
pub mod Compared
pub mod FoundObjects
