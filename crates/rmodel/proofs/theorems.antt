-- The laws, and a worked case.
pub mod Exclusive
pub mod HistoryLaws
pub mod LawProofs
pub mod Something
mod WorkedCase
