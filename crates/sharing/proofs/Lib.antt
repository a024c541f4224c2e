pub mod Many
pub mod Opened
pub mod Growing
pub mod Settles
