-- The words of slots, and the calls that change one.
pub mod AtEmpty
pub mod ByKey
pub mod ByNode
pub mod Current
pub mod Deeds
pub mod PutSteps
pub mod RemoveByKey
pub mod ReplaceByKey
pub mod SlotAgrees
pub mod SwapSteps
pub mod Watches
