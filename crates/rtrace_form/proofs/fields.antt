pub mod NumbersBack
pub mod SetsBack
pub mod ReadBack
