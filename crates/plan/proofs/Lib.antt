pub mod Accepted
pub mod Bytes
pub mod Counts
pub mod Filled
pub mod Files
pub mod Forms
pub mod Records
mod Refusals
pub mod Same
pub mod Spanning
mod Trees
mod Verdicts
pub mod Ways
