pub mod Words
pub mod StepsKeepRule
pub mod TurnsKeepRule
pub mod CallsAreTurns
pub mod SeatsKeepRule
pub mod Passing
pub mod Calling
pub mod Closing
pub mod Showing
-- The names that many of these proofs cite, passed on from one place.
pub use Words.*
pub use Calling.*
pub use Passing.*
pub use SeatsKeepRule.*
pub use TurnsKeepRule.*
