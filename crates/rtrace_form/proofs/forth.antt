pub mod Stands
pub mod HeadSteps
pub mod EntrySteps
pub mod EndSteps
pub mod Lines
pub mod Names
pub mod Rows
