pub mod Waiting
pub mod Begun
pub mod Beside
