pub mod Histories
pub mod Shares
pub mod Homes
pub mod Lent
pub mod Moves
pub mod Contents
pub mod Laws
