pub mod Residents
pub mod AtSlots
pub mod Machine
pub mod Starts
pub mod Dead
pub mod Counted
pub mod Packed
pub mod Words
