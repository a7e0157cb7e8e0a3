pub mod Lends
pub mod Moves
pub mod Walking
