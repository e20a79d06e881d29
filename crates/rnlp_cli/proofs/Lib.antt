pub mod Lines
pub mod Outcomes
pub mod ToolAnswers
pub mod Streams
pub mod Runs
pub mod Watches
pub mod Promises
pub mod Tellings
pub mod Audits
pub mod Lists
mod ToldDue
mod Dues
pub mod DueTexts
pub mod FirstDue
pub mod LinesBehind
pub mod Beforehand
pub mod BoundLines
pub mod Keeping
pub mod Ledgers
pub mod OpenRequests
pub mod RunReports
