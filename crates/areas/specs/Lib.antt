pub mod Areas
pub mod Walked
