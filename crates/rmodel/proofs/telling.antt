-- What a step reports.
pub mod ChangesTold
pub mod GrantsTold
