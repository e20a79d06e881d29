-- Lists: what passes a test.
pub mod Found
pub mod Different
pub mod Counting
pub mod Pushed
