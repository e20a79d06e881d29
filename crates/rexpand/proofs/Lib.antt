pub mod SharedLemmas
pub mod PlaceLemmas
pub mod DeclaredLemmas
pub mod GroupLemmas
mod EntryLemmas
mod NotedLemmas
mod KeptLemmas
