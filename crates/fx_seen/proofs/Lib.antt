pub mod Ghost
pub mod Views
