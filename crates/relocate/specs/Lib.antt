pub mod Drafts
pub mod Targets
pub mod Runs
pub mod Many
