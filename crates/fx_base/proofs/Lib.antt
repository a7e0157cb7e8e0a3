pub mod Marks
pub mod Entries
