-- What holds of the index of some lists, and of those of a reading.
pub mod Fields
pub mod Inside
pub mod Lists
pub mod Calls
pub mod Accepted
