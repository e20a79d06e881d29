-- The waits that states show.
pub mod Asked
pub mod EachWait
pub mod EndedCovers
pub mod OneClaim
pub mod Runs
pub mod Waits
pub mod Few
