pub mod Ends
pub mod Faults
pub mod Memory
pub mod Tries
