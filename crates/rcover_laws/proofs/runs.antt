-- What holds over a run of moments.
pub mod Moments
pub mod Push
pub mod Steps
pub mod Taken
pub mod Throughout
pub mod LineOverTime
