pub mod Draws
pub mod Edits
pub mod Readings
pub mod Sketches
