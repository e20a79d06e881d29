-- The heads of writes, from event to event.
pub mod Heads
pub mod Leasts
pub mod Reached
pub mod Refilled
pub mod Stayed
pub mod Taken
pub mod Turns
pub mod Writers
