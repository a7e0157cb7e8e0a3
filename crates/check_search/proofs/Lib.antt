pub mod Words
pub mod Reaching
pub mod Hopeless
pub mod Uneven
