pub mod Back
pub mod Limits
pub mod Reaching
pub mod GoodLines
pub mod GoodEntries
pub mod Told
pub mod Spelled
pub mod WithinBounds
