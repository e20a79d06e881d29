pub mod Plain
pub mod Rows
pub mod Records
pub mod Place
pub mod Lists
pub mod OneReport
