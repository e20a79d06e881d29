pub mod Sections
pub mod Watching
