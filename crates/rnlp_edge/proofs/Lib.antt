pub mod Edges
pub mod PlainNames
pub mod Promised
pub mod TaskLines
mod WatcherLines
