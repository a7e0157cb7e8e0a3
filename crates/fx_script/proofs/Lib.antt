pub mod Words
pub mod KeptBytes
pub mod PlaySteps
-- The names that many of these proofs cite, passed on from one place.
pub use Words.*
pub use KeptBytes.*
pub use PlaySteps.*
