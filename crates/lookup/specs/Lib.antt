-- What the code speaks of.
pub mod Given
-- Theorems about it.
pub mod ByOffset
pub mod Once
pub mod ByKey
