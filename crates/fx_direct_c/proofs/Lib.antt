pub mod AsBox
pub mod Sending
