-- What holds of the lock along its history.
pub mod Following
pub mod Staying
