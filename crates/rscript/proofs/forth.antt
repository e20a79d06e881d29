pub mod TaskLines
pub mod Stands
pub mod Steps
pub mod Lines
pub mod Names
pub mod Rows
