pub mod Beginning
pub mod Behind
pub mod Closed
pub mod Going
pub mod Order
pub mod Watching
