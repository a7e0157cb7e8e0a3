pub mod Events
pub mod Faults
pub mod Flight
pub mod Laws
pub mod Whole
pub mod Words
