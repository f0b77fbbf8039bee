-- What holds of what it writes.
pub mod Theorems
