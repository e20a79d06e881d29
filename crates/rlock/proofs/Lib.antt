pub mod Counting
pub mod Entries
pub mod Moves
pub mod Newcomers
pub mod Parts
pub mod Passes
pub mod Shares
pub mod Shelves
