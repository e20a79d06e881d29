pub mod Telling
mod Hearing
pub mod Given
