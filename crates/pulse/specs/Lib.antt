pub mod Rounds
pub mod States
pub mod Steps
pub mod Traces
pub mod Law
pub mod Shown
pub mod Mistakes
