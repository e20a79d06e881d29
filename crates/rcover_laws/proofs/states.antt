-- What holds at one moment, and from one moment to the next.
pub mod AtRest
pub mod ThroughEvent
pub mod Asking
pub mod Lines
pub mod LeastOfLine
pub mod Seats
