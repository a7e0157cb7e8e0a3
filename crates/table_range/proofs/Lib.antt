pub mod Words
pub mod GroupSlots
pub mod Bits
pub mod Slots
pub mod Owing
pub mod Counting
pub mod Steps
