pub mod Messages
pub mod Meanings
pub mod Makes
pub mod Places
pub mod Stores
pub mod Picks
