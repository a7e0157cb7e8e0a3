pub mod Words
pub mod Calls
pub mod Growth
pub mod Submitted
pub mod Walks
pub mod Plays
pub mod Ways
-- The names that many of these proofs cite, passed on from one place.
pub use Words.*
pub use Calls.*
pub use Growth.*
pub use Submitted.*
pub use Walks.*
pub use Ways.*
