pub mod Words
pub mod Program
pub mod Progress
pub mod Meanings
pub mod Lines
