pub mod Words
pub mod Placed
pub mod RequestCases
pub mod Intents
pub mod RequestSteps
pub mod Accesses
pub mod Histories
pub mod Apart
pub mod ChainsFront
pub mod Ordered
pub mod PlacedNew
pub mod OneRing
-- The names that many of these proofs cite, passed on from one place.
pub use Words.*
pub use Accesses.*
pub use Apart.*
pub use ChainsFront.*
