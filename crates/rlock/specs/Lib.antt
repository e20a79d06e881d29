pub mod Covering
pub mod Known
pub mod Rule
pub mod Steps
pub mod Views
pub mod Roll
pub mod Shelf
