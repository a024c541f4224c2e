pub mod Histories
pub mod Events
pub mod Blocks
pub mod BlockViews
pub mod Views
pub mod Codes
pub mod Parts
pub mod Passing
