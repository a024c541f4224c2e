pub mod Collections
pub mod Staying
pub mod NotRoom
pub mod Given
pub mod Refilled
pub mod Parted
pub mod Staged
pub mod Fitted
pub mod Paced
mod Counts
