-- That waits are covered.
pub mod AskCover
pub mod ReadCover
pub mod Theorems
pub mod WriteCover
