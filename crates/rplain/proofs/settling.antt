-- How claims settle, event by event and claim by claim.
pub mod Barred
pub mod ChangeSteps
pub mod IssueSteps
pub mod Issued
pub mod NewSettled
pub mod OneSwept
pub mod Own
pub mod Removed
pub mod RemovedSteps
pub mod SoFar
pub mod SweepSteps
pub mod Sweeping
pub mod ToldSteps
