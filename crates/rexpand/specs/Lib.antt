pub mod Groups
pub mod Codes
pub mod Kept
