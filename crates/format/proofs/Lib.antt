-- Theorems about it.
pub mod Theorems
