-- What is at home, and how it goes out and comes back.
pub mod Lists
pub mod Moved
pub mod Counts
pub mod Giving
pub mod Lending
pub mod Taken
pub mod Taking
