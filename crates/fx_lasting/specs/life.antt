-- The life of a table: its layout, its opening and its end.
pub mod Closing
pub mod Cuts
pub mod Layout
pub mod LifeAgrees
pub mod Lives
pub mod Opens
pub mod Showing
