pub mod Rule
pub mod Laws
pub mod Turns
pub mod Passes
pub mod Lives
pub mod Tables
pub mod Showing
pub mod Words
