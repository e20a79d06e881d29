pub mod Kept
pub mod Lookouts
pub mod Looks
pub mod Watches
pub mod Workers
