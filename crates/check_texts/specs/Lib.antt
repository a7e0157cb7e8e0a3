pub mod Texts
pub mod Rings
pub mod Ways
pub mod Layers
pub mod Words
