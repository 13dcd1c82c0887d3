pub mod Depths
pub mod Trails
