pub mod Items
pub mod Lowest
pub mod Pushed
