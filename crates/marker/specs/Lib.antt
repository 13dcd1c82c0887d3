pub mod Distances
pub mod Rounds
pub mod Marked
