-- What the type of a locked state keeps, through each of its operations.
pub mod Beginning
pub mod Boxed
pub mod Ending
pub mod Giving
pub mod Pushing
pub mod Taking
pub mod Watching
