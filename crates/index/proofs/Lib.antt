-- What holds of what the code speaks of.
pub mod ReadLaws
-- What holds of the index.
pub mod Theorems
