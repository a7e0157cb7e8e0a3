pub mod Words
pub mod Beginnings
pub mod Chains
pub mod Numbers
pub mod InTime
pub mod Submission
-- The names that many of these proofs cite, passed on from one place.
pub use Words.*
pub use Chains.*
pub use Numbers.*
