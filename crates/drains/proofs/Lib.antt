pub mod Scanned
pub mod Drained
pub mod Ended
pub mod Bits
pub mod Waiting
pub mod Blanks
pub mod Written
pub mod Scans
