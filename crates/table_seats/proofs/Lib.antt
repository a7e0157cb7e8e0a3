pub mod Words
pub mod Together
pub mod Moving
pub mod Gathered
