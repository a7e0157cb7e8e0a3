pub mod Answers
pub mod MachineMemory
pub mod Lending
