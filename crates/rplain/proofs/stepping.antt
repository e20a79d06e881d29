-- The few looks of a step of `Plain` agree with the definitions.
pub mod Marked
pub mod OnlyMarks
pub mod PlainSteps
