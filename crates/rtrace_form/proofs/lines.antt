pub mod WordBack
pub mod LineBack
pub mod Decided
pub mod Fields
