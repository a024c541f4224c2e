mod Listing
pub mod Lists
pub mod Pages
pub mod Copies
pub mod Objects
pub mod Frames
pub mod Leading
pub mod Roots
pub mod Sound
