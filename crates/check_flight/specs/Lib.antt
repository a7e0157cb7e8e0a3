pub mod Reasons
pub mod Refutations
pub mod States
pub mod Judged
pub mod Player
pub mod Words
