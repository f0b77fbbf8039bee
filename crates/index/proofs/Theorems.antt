-- What holds of the index.
pub mod Examples
pub mod Determined
pub mod Rows
pub mod Back
pub mod Unique
