-- The allocation range: counts, questions and searches.
pub mod Groups
pub mod Questions
pub mod Scans
pub mod Tries
