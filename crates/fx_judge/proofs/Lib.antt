pub mod ReadFiles
pub mod LogVerdicts
pub mod Found
pub mod Words
-- The names that many of these proofs cite, passed on from one place.
pub use Words.*
