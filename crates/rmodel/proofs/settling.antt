-- What settling a list, and granting what is asked for, make of it and keep.
pub mod Admitted
pub mod Alike
pub mod Behind
pub mod Earliest
pub mod EarlyGrants
pub mod Giving
pub mod Keeping
pub mod OneSettlement
pub mod OneWrite
pub mod Settlement
pub mod Somebody
pub mod Stable
pub mod Standing
pub mod Turns
