-- The nodes: where each is in its life, the stocks of passes, and labels.
pub mod KeepSteps
pub mod LabelSteps
pub mod Labels
pub mod NodesAgree
pub mod Phases
pub mod Searches
pub mod Stocks
