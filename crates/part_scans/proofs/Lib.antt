pub mod Words
pub mod Scanned
pub mod Taken
pub mod Greying
pub mod Waits
pub mod Marked
