pub use Rattle.rtrace_write.specs.Report
pub use Rattle.rscript.specs.Needs
pub use Rattle.rscript.specs.Scripts
pub use Rattle.rscript.specs.Sections
pub use Rattle.rscript.specs.Statements
pub use Rattle.rscript.specs.declared.statement.Statement
pub use Rattle.rguard.specs.Seats as GuardSeats
pub mod Reporting
pub mod Steps
pub mod Runs
pub mod Working
pub mod Desks
pub mod Seats
pub mod Tasks
pub mod Jobs
pub mod Monitors
pub mod Endings
