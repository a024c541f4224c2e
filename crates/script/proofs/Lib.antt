pub mod Telling
pub mod Commands
mod Books
