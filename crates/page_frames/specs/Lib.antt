pub mod Aside
pub mod Kept
pub mod Lending
