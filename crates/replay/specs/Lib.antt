-- What the comparisons answer.
pub mod Off
-- Theorems about it.
pub mod Laws
