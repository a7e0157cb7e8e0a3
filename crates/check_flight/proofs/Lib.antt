pub mod Words
pub mod Runs
pub mod Steps
pub mod Fronts
pub mod Judging
pub mod Reasons
pub mod Refuting
pub mod Moves
-- The names that many of these proofs cite, passed on from one place.
pub use Words.*
pub use Judging.*
pub use Moves.*
pub use Refuting.*
pub use Runs.*
