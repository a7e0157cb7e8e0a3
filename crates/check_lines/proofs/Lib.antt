pub mod Words
pub mod Decimals
pub mod PlaysBegin
pub mod CompletionTexts
pub mod ReportTexts
pub mod Marks
pub mod Calls
pub mod Entries
pub mod Cuts
-- The names that many of these proofs cite, passed on from one place.
pub use Words.*
pub use CompletionTexts.*
pub use Cuts.*
pub use Decimals.*
pub use Entries.*
pub use ReportTexts.*
