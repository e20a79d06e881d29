pub mod InTurn
pub mod Ledgers
pub mod Acts
pub mod Entries
pub mod Histories
pub mod Lawful
