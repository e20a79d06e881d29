pub mod stepping
pub mod settling
