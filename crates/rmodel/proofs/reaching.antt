-- What holds in the states that accepted events lead to, and what an event does to claims.
pub mod Came
pub mod EachClaim
pub mod FewClaims
pub mod Going
pub mod Growing
pub mod HeldBySeat
pub mod Histories
pub mod IdleSeats
pub mod NewClaims
pub mod OneOfSeat
pub mod Reached
pub mod Soundness
pub mod Stamps
