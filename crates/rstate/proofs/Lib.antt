pub mod histories
pub mod homes
pub mod keeping
