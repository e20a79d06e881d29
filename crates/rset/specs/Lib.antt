pub mod Sets
pub mod SetFacts
pub mod Words
pub mod WordFacts
pub mod Names
pub mod Kept
