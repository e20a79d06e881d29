pub use Rattle.rset.specs.Sets
pub mod Codes
pub mod EventCodes
pub mod Requests
pub mod Events
pub mod Changes
