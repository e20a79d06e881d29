-- What a seat claims and has seen, through its own entries and those of others.
pub mod Claims
pub mod Along
pub mod Finding
pub mod Idle
pub mod Turning
pub mod Acting
pub mod Halves
