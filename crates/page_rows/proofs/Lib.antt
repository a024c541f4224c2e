pub mod NoBits
pub mod Notes
pub mod Starts
pub mod SwappedRows
pub mod SwappedStarts
pub mod GivenRows
