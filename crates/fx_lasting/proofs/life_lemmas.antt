-- Lemmas of a table's life: its opening, its seats and its end.
pub mod Reseating
pub mod Seats
pub mod Openings
pub mod Ending
pub mod Listed
pub mod HomeComing
pub mod Sparse
pub mod Gathered
pub mod Showing
