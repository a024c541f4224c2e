pub mod Viewing
pub mod Views
