pub mod Measure
pub mod Sections
pub mod Words
