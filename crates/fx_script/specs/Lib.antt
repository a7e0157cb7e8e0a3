pub mod Text
pub mod Play
pub mod RunView
pub mod Run
pub mod PlayedRing
pub mod Words
