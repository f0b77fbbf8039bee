-- What the code speaks of.
pub mod Listed
-- Theorems about it.
pub mod Event
pub mod Left
pub mod Resolved
pub mod Whole
pub mod Tested
