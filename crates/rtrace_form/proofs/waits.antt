pub mod AskedSets
pub mod EndedWaits
pub mod SmallBounds
pub mod ShortNeeds
pub mod GoodWaits
