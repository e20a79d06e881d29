pub use Rattle.rexpand.proofs.DeclaredLemmas
pub use Rattle.rexpand.proofs.PlaceLemmas
pub mod ListFacts
pub mod settling
pub mod reaching
pub mod telling
pub mod theorems
