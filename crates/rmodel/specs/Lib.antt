pub use Rattle.rexpand.specs.Codes as GroupCodes
pub use Rattle.rexpand.specs.Groups
pub mod Claims
pub mod Refused
pub mod Rules
pub mod State
pub mod Holds
pub mod Settling
pub mod Steps
pub mod Changes
pub mod WellFormed
pub mod Reached
pub mod Codes
pub mod Laws
pub mod Telling
pub mod StateLaws
pub mod Watching
