pub mod Many
pub mod Portions
pub mod Seats
pub mod SeatViews
pub mod Settling
