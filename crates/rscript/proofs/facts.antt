pub mod Fine
pub mod Said
