pub mod Staying
pub mod Rows
pub mod Parking
pub mod Doing
pub mod Loads
pub mod Collected
pub mod Numbered
pub mod Others
