pub mod Ones
pub mod Records
pub mod Seats
pub mod Sums
pub mod Telling
pub mod Total
