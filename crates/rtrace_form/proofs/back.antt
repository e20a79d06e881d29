pub mod Runs
pub mod FineLines
pub mod HeadRuns
pub mod EntryRuns
pub mod EndRuns
pub mod Rows
pub mod BlankRuns
