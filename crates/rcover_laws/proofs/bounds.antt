-- That no wait goes above its bound.
pub mod AskBound
pub mod Finding
pub mod Issued
pub mod Knowing
pub mod ReadBound
pub mod Within
pub mod WriteBound
pub mod WriteSections
