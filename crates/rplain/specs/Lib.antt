pub mod Machine
pub mod Plain
pub mod NewClaim
pub mod Sweep
