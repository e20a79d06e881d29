pub mod Runs
pub mod HeadRuns
pub mod TaskRuns
pub mod Codes
pub mod Rows
