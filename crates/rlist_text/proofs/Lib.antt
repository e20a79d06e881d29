pub mod Alone
pub mod Saying
pub mod Spelling
