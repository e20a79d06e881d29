-- Whose wait may end by an event, and what becomes of the heads of writes.
pub mod Grants
pub mod Later
pub mod Lost
pub mod Quiet
pub mod Writers
