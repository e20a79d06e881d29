pub mod SetMembers
pub mod SetsWithin
pub mod SetsMeet
pub mod SetsBelow
pub mod SetsRising
pub mod SetLemmas
mod WordLemmas
pub mod NameLemmas
mod KeptLemmas
