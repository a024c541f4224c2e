pub mod Written
pub mod Totals
