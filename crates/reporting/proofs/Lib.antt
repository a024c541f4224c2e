pub mod Leading
pub mod Listing
pub mod Telling
pub mod Copied
