pub use Rattle.rcover.specs.Follows
pub use Rattle.rcover.specs.Past
pub use Rattle.rcover.specs.declared.following.Following
pub mod Due
pub mod Knows
pub mod LineTakes
pub mod Takes
