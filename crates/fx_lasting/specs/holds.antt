-- The holds: which pass has which file, and the round of a retirement.
pub mod FinishSteps
pub mod Holds
pub mod HoldsAgree
pub mod Visits
