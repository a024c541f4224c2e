pub mod Lists
pub mod Ranges
pub mod Memory
pub mod Results
pub mod Usual
pub mod Tables
pub mod Passing
pub mod OfPages
pub mod Plans
mod Examples
mod MovingExamples
mod RollingExamples
