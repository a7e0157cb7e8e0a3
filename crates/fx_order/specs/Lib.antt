pub mod Access
pub mod Slots
pub mod Requests
pub mod Order
pub mod Laws
pub mod SubmissionReport
pub mod Words
