pub mod Apart
pub mod Others
pub mod Portions
pub mod Views
