pub mod Arrays
pub mod Logs
pub mod Outcomes
pub mod Reading
pub mod Verdicts
