pub mod Seats
pub mod Together
pub mod Settling
