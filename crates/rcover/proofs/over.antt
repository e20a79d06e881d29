-- What is kept of a wait, over its moments.
pub mod Closed
pub mod LastHolder
pub mod ReadRun
pub mod Rooms
pub mod Tracking
pub mod WriteRun
pub mod WriteStep
