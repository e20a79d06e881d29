pub mod Acts
pub mod Asking
pub mod Causes
pub mod Laws
pub mod Nested
pub mod Seats
pub mod Upgrades
pub mod Works
