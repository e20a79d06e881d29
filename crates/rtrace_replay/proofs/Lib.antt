pub use Rattle.rtrace_read.proofs.Still
pub mod Following
pub mod Replays
pub mod Endings
pub mod Kept
pub mod Telling
