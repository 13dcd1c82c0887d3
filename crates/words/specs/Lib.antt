pub mod Parts
pub mod Hex
pub mod Placed
