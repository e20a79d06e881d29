pub mod Causes
pub mod Shapes
pub mod Tells
pub mod Begins
