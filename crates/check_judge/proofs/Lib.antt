pub mod RequestClaims
pub mod StrandClaims
pub mod Refuting
pub mod Words
pub mod AccessPlaces
pub mod Plays
pub mod InRange
pub mod Submissions
pub mod OrderFiles
-- The names that many of these proofs cite, passed on from one place.
pub use Words.*
pub use AccessPlaces.*
pub use OrderFiles.*
pub use RequestClaims.*
