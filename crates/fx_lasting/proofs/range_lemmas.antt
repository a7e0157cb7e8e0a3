-- Lemmas of the allocation range: counts, questions and searches.
pub mod GroupSteps
pub mod QuestionSteps
pub mod Questions
pub mod Trying
pub mod GapSearches
pub mod Scanning
pub mod Walks
