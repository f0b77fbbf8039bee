pub mod Read
pub mod Walked
pub mod Stored
