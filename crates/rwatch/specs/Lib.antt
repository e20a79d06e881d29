pub mod Weights
pub mod Seen
pub mod Codes
pub mod Laws
