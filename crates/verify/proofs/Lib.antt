pub mod Leading
pub mod Visiting
pub mod Walking
pub mod Passing
pub mod Sharing
pub mod Claiming
pub mod Verdicts
pub mod Searching
pub mod Tabling
mod Spotting
mod Starting
mod Looking
