pub mod OneScript
pub mod Taken
pub mod Written
