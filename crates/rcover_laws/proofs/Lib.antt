pub mod lists
pub mod states
pub mod runs
pub mod covers
pub mod bounds
pub mod told
pub mod past
